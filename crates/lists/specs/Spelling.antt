-- A script for every list of calls: a row for each call, and the entries of all traces one after the other.
use Rattle.std.specs.Prelude.{ℕ, ◌+◌, ◌*◌, ◌^◌, ◌<◌, ◌≤◌, ◌≡◌, List, [], ◌∷◌, ◌++◌, length}
use Rattle.machine.specs.Lists.{Call}
use Rattle.machine.specs.Lists.Call.{reset, read, write, cycle, jump, trace, look, offer, take, return, wake}
use Rattle.calls.specs.Row.{RESET, READ, WRITE, CYCLE, JUMP, TRACE, LOOK, OFFER, TAKE, RETURN, WAKE, answer_words}
use Rattle.lists.specs.Script.{Script, script, calls_of}

-- What a list of numbers must be to be a slice

-- a fact of every member of a list
unfoldable pub Each : {A : Type 0} → (A → Type 0) → List A → Type 0
Each P [] = Unit {0}
Each P (x ∷ xs) = P x × Each P xs

-- a number fits a type of so many bytes
abbrev pub In : ℕ → ℕ → Type 0
In size x = x < 2 ^ (8 * size)

-- so many elements of so many bytes can be addressed
abbrev pub Addressable : ℕ → ℕ → Type 0
Addressable size n = n * size < 2 ^ 63

pub record Slice (size : ℕ) (xs : List ℕ) : Type 0 where
  pub elements : Each (In size) xs
  pub addressable : Addressable size (length xs)

-- each argument of a call fits its type: u8 for a kind, an address, a value and a pin byte, u64 for n, u32 for an entry
unfoldable pub Fits : Call → Type 0
Fits (reset kind) = In 1 kind
Fits (read a) = In 1 a
Fits (write a v) = In 1 a × In 1 v
Fits (cycle pins) = In 1 pins
Fits (jump pins n) = In 1 pins × In 8 n
Fits (trace es) = Each (In 4) es
Fits (look pins n) = In 1 pins × In 8 n
Fits offer = Unit {0}
Fits take = Unit {0}
Fits return = Unit {0}
Fits (wake pins n) = In 1 pins × In 8 n

-- How a call is spelled

-- its number and its arguments
pub record Spelt : Type 0 where
  pub op : ℕ
  pub first : ℕ
  pub second : ℕ

abbrev spelt : ℕ → ℕ → ℕ → Spelt
spelt op first second = record { op = op; first = first; second = second }

-- the entries that a call is lent
unfoldable pub entries_of : Call → List ℕ
entries_of (reset kind) = []
entries_of (read a) = []
entries_of (write a v) = []
entries_of (cycle pins) = []
entries_of (jump pins n) = []
entries_of (trace es) = es
entries_of (look pins n) = []
entries_of offer = []
entries_of take = []
entries_of return = []
entries_of (wake pins n) = []

-- each call; its entries stand after k that are lent to the calls before
unfoldable pub spell : ℕ → Call → Spelt
spell k (reset kind) = spelt RESET kind 0
spell k (read a) = spelt READ a 0
spell k (write a v) = spelt WRITE a v
spell k (cycle pins) = spelt CYCLE pins 0
spell k (jump pins n) = spelt JUMP pins n
spell k (trace es) = spelt TRACE k (k + length es)
spell k (look pins n) = spelt LOOK pins n
spell k offer = spelt OFFER 0 0
spell k take = spelt TAKE 0 0
spell k return = spelt RETURN 0 0
spell k (wake pins n) = spelt WAKE pins n

-- its row
abbrev pub row_of_call : ℕ → Call → List ℕ
row_of_call k c = (spell k c).op ∷ (spell k c).first ∷ (spell k c).second ∷ []

-- the rows of a list, and all entries
unfoldable pub rows_of_calls : ℕ → List Call → List ℕ
rows_of_calls k [] = []
rows_of_calls k (c ∷ cs) = row_of_call k c ++ rows_of_calls (k + length (entries_of c)) cs

unfoldable pub lent_of : List Call → List ℕ
lent_of [] = []
lent_of (c ∷ cs) = entries_of c ++ lent_of cs

abbrev pub script_of : List Call → Script
script_of cs = script (rows_of_calls 0 cs) (lent_of cs)

-- answers have room for n rows
abbrev pub Room : ℕ → List ℕ → Type 0
Room n answers = n * answer_words ≤ length answers

-- a script of slices that spells a list, whatever answers with room for its replies are lent with it
pub record Spells (s : Script) (cs : List Call) : Type 0 where
  pub calls : Slice 8 s.calls
  pub lent : Slice 4 s.lent
  pub spelled : (answers : List ℕ) → Room (length cs) answers → calls_of s answers ≡ cs
