-- What lies where in the node (words of 64 bits) and in the book (half words of 16 bits). One field a word; only the
-- index and a waiting acknowledgement pack more into one. Cited by whatever reads or writes either. All zeros is a new
-- node. Assumes nothing.
use Rattle.std.specs.Prelude.{ℕ, zero, suc, ◌+◌, ◌-◌, ◌*◌, ◌/◌, ◌%◌, ◌≤◌, ◌<◌, ltb}
use Rattle.units.specs.Refusals.{pick}
use Rattle.units.specs.Limits.{most_entries}

-- ---- the node

abbrev pub node_words : ℕ
node_words = 832

-- its head: count of entries, own address, protocol ID, bytes of store in use
abbrev pub count_at : ℕ
count_at = 0

abbrev pub own_at : ℕ
own_at = 1

abbrev pub protocol_at : ℕ
protocol_at = 2

abbrev pub need_at : ℕ
need_at = 3

-- the waiting acknowledgements: the oldest one's place, how many, and their places
abbrev pub oldest_at : ℕ
oldest_at = 4

abbrev pub acks_at : ℕ
acks_at = 5

-- and 32 places [I2]
abbrev pub ack_at : ℕ → ℕ
ack_at k = 32 + k

abbrev pub ack_places : ℕ
ack_places = 32

-- the word of an acknowledgement of number s for entry i; and of such a word the entry and the number
abbrev pub ack_word : ℕ → ℕ → ℕ
ack_word i s = i * 256 + s

abbrev pub ack_entry : ℕ → ℕ
ack_entry w = w / 256 % 256

abbrev pub ack_number : ℕ → ℕ
ack_number w = w % 256

-- the number of the last tick, and how many more pass before a timer can run out (crates/timing)
abbrev pub clock_at : ℕ
clock_at = 6

abbrev pub quiet_at : ℕ
quiet_at = 7

-- row v of the index, where frames find their entry: three sets of entries, a binary digit each (crates/arrive_lookup)
abbrev pub row_at : ℕ → ℕ
row_at v = 64 + v

-- how many words an entry has, and where entry i begins
abbrev pub entry_long : ℕ
entry_long = 32

abbrev pub entry_at : ℕ → ℕ
entry_at i = 320 + entry_long * i

-- an entry's words: its kind stands first; what else the table says of it, and where its area of the store begins
abbrev pub remote_word : ℕ
remote_word = 1

abbrev pub channel_word : ℕ
channel_word = 2

abbrev pub retries_word : ℕ
retries_word = 3

abbrev pub window_word : ℕ
window_word = 4

abbrev pub largest_word : ℕ
largest_word = 5

abbrev pub timeout_word : ℕ
timeout_word = 6

abbrev pub place_word : ℕ
place_word = 7

-- its state: which one, its timer or count of timers, and whether a Reset went out
abbrev pub state_word : ℕ
state_word = 8

abbrev pub state_value_word : ℕ
state_value_word = 9

abbrev pub state_flag_word : ℕ
state_flag_word = 10

-- its run
abbrev pub start_word : ℕ
start_word = 11

abbrev pub low_marks_word : ℕ
low_marks_word = 12

abbrev pub high_marks_word : ℕ
high_marks_word = 13

abbrev pub taken_word : ℕ
taken_word = 14

abbrev pub handed_word : ℕ
handed_word = 15

abbrev pub accepted_word : ℕ
accepted_word = 16

abbrev pub confirmed_word : ℕ
confirmed_word = 17

abbrev pub urgent_word : ℕ
urgent_word = 18

-- ---- the book

abbrev pub book_halves : ℕ
book_halves = 10368

-- what can wait has a number: first the four queues themselves
abbrev pub resets : ℕ
resets = 0

abbrev pub urgents : ℕ
urgents = 1

abbrev pub resends : ℕ
resends = 2

abbrev pub datas : ℕ
datas = 3

abbrev pub queues : ℕ
queues = 4

-- no thing that waits has the numbers from here to the first Reset's, and the first of them has no links: in the place
-- of its link is what the port has under way (crates/waiting, specs/Port.antt)
abbrev pub under_at : ℕ
under_at = 4

-- then entry i's Reset, and whose Reset x is
abbrev pub reset_id : ℕ → ℕ
reset_id i = 16 + i

abbrev pub reset_entry : ℕ → ℕ
reset_entry x = (x - 16) % 256

-- entry i's Urgent, and whose Urgent x is
abbrev pub urgent_id : ℕ → ℕ
urgent_id i = 32 + i

abbrev pub urgent_entry : ℕ → ℕ
urgent_entry x = (x - 32) % 256

-- the payload in cell g, and which cell x is
abbrev pub cell_id : ℕ → ℕ
cell_id g = 64 + g

abbrev pub id_cell : ℕ → ℕ
id_cell x = x - 64

-- the cell of slot k of entry i; and of a payload that waits as x, its entry and its slot
abbrev pub cell_of : ℕ → ℕ → ℕ
cell_of i k = 128 * i + k

abbrev pub id_entry : ℕ → ℕ
id_entry x = id_cell x / 128 % 256

abbrev pub id_slot : ℕ → ℕ
id_slot x = id_cell x % 128

-- the entry that owns x, whatever waits as x [H3]
unfoldable pub owner_of : ℕ → ℕ
owner_of x =
    pick (ltb x (urgent_id 0)) (x - reset_id 0) (pick (ltb x (cell_id 0)) (x - urgent_id 0) (id_cell x / cell_of 1 0))

-- which things wait in which queue: Resets, Urgents, and in the other two payloads [H3]
unfoldable pub Ranged : ℕ → ℕ → Type 0
Ranged zero x = (reset_id 0 ≤ x) × (x < reset_id most_entries)
Ranged (suc zero) x = (urgent_id 0 ≤ x) × (x < urgent_id most_entries)
Ranged (suc (suc q)) x = (cell_id 0 ≤ x) × (x < cell_id (cell_of most_entries 0))

-- what can wait has a number below this [H3]
abbrev pub ids_end : ℕ
ids_end = cell_id (cell_of most_entries 0)

-- the links of what waits: what is behind it, and what before it
abbrev pub next_at : ℕ → ℕ
next_at x = x

abbrev pub prev_at : ℕ → ℕ
prev_at x = 2112 + x

-- how many cells there are, and where what the book keeps of them begins
abbrev pub all_cells : ℕ
all_cells = cell_of most_entries 0

abbrev pub cells_at : ℕ
cells_at = 4224

-- cell g: the payload's length, its timer (the tick at which it runs out, crates/timing), its retries
abbrev pub length_at : ℕ → ℕ
length_at g = cells_at + g

abbrev pub timer_at : ℕ → ℕ
timer_at g = 6272 + g

abbrev pub retries_at : ℕ → ℕ
retries_at g = 8320 + g

-- whose a word of the book beyond the links is: lengths, timers and retries lie by entry
abbrev pub cell_owner : ℕ → ℕ
cell_owner k = (k - cells_at) % all_cells / cell_of 1 0
