pub mod TypeLaws
pub mod WriteLaws
pub mod ReadLaws
pub mod Parts
pub mod RoundTrip
pub mod FaultLaws
pub mod AgainstRules
