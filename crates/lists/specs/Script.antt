-- How a script spells a list of calls, and how the answers to it are written down: rows of words, one after the other.
use Rattle.std.specs.Prelude.{ℕ, zero, suc, ◌/◌, min, ◌≡◌, cond, List, [], ◌∷◌, ◌++◌, length, get_or, take, drop, eqb}
use Rattle.machine.specs.declared.Device.{Device}
use Rattle.machine.specs.Lists.{Call, Reply, Ran, run, Start, machine, says}
use Rattle.machine.specs.Lists.Value.{numbers, none}
use Rattle.calls.specs.Row.{call_of, answer_words, none_mark, row_of}

-- Calls

-- the words of a call: its number and two arguments
abbrev pub call_words : ℕ
call_words = 3

-- a script: the rows of the calls, and the entries that its traces are lent
pub record Script : Type 0 where
  pub calls : List ℕ
  pub lent : List ℕ

abbrev pub script : List ℕ → List ℕ → Script
script calls lent = record { calls = calls; lent = lent }

-- the call of the first row, and those of the first n rows
abbrev pub first_call : List ℕ → List ℕ → Call
first_call rows lent = call_of (get_or rows 0 0) (get_or rows 1 0) (get_or rows 2 0) lent

unfoldable pub calls_in : ℕ → List ℕ → List ℕ → List Call
calls_in zero rows lent = []
calls_in (suc n) rows lent = first_call rows lent ∷ calls_in n (drop call_words rows) lent

-- Answers

-- the rows of all replies
unfoldable pub rows_of : List Reply → List ℕ
rows_of [] = []
rows_of (r ∷ rs) = row_of r ++ rows_of rs

-- the answers with all replies written down, and what lies past them as it was
unfoldable pub written : List Reply → List ℕ → List ℕ
written rs answers = rows_of rs ++ drop (length (rows_of rs)) answers

-- a row read back, and the first n rows
abbrev pub first_reply : List ℕ → Reply
first_reply rows =
    says (get_or rows 0 0) (cond (eqb (get_or rows 1 0) none_mark) none (numbers (take (get_or rows 1 0) (drop 2 rows))))

unfoldable pub replies_in : ℕ → List ℕ → List Reply
replies_in zero rows = []
replies_in (suc n) rows = first_reply rows ∷ replies_in n (drop answer_words rows)

-- A replay

-- as many calls as both slices have whole rows for
unfoldable pub rows : List ℕ → List ℕ → ℕ
rows calls answers = min (length calls / call_words) (length answers / answer_words)

-- the list that a script spells
unfoldable pub calls_of : Script → List ℕ → List Call
calls_of s answers = calls_in (rows s.calls answers) s.calls s.lent

-- what a replay ends with is what a machine ended with: every answer, and the state
pub record Answered (m : Ran) (last : Device) (before after : List ℕ) : Type 0 where
  pub state : last ≡ m.device
  pub answers : after ≡ written m.replies before

-- a script from any device, and from where the plain machine starts: what reset gives a kind, or the values of a file
abbrev pub Replayed : Device → Script → List ℕ → Device → List ℕ → Type 0
Replayed d s before last after = Answered (run (calls_of s before) d) last before after

abbrev pub ReplayedFrom : Start → Script → List ℕ → Device → List ℕ → Type 0
ReplayedFrom start s before last after = Answered (machine start (calls_of s before)) last before after
