-- A row of a script: how it spells a call, and how the answer is written down.
use Rattle.std.specs.Prelude.{ℕ, zero, suc, ◌-◌, ◌%◌, ◌^◌, cond, List, [], ◌∷◌, length, take, drop, leb, eqb, Option, Some, None, Result, Ok, Err}
use Rattle.machine.specs.declared.Totals.{Totals}
use Rattle.machine.specs.declared.Jumped.{Jumped}
use Rattle.machine.specs.declared.refusals.Refusal.{Refusal}
use Rattle.machine.specs.Totals.{no_totals}
use Rattle.machine.specs.Outcomes.{code_of, number as number_of}
use Rattle.machine.specs.Lists.{Call, Value, Reply, says, nothing, number, listed, listed_with}
use Rattle.machine.specs.Lists.Value.{numbers, none}

-- A call

-- the lent entries from a start to an end; none where these are not in order or not in range
unfoldable pub part_of : List ℕ → ℕ → ℕ → List ℕ
part_of lent start end = cond (leb start end) (cond (leb end (length lent)) (take (end - start) (drop start lent)) []) []

-- a kind, an address, a value or a pin byte: the low 8 bits of a word
abbrev pub byte_in : ℕ → ℕ
byte_in word = word % 256

-- the calls by their numbers; every other number is a return
abbrev pub RESET : ℕ
RESET = 0

abbrev pub READ : ℕ
READ = 1

abbrev pub WRITE : ℕ
WRITE = 2

abbrev pub CYCLE : ℕ
CYCLE = 3

abbrev pub JUMP : ℕ
JUMP = 4

abbrev pub TRACE : ℕ
TRACE = 5

abbrev pub LOOK : ℕ
LOOK = 6

abbrev pub OFFER : ℕ
OFFER = 7

abbrev pub TAKE : ℕ
TAKE = 8

abbrev pub RETURN : ℕ
RETURN = 9

abbrev pub WAKE : ℕ
WAKE = 10

-- the call of a row, from its number and its arguments
unfoldable pub call_of : ℕ → ℕ → ℕ → List ℕ → Call
call_of op first second lent =
    cond (eqb op RESET) (Call.reset (byte_in first))
    (cond (eqb op READ) (Call.read (byte_in first))
    (cond (eqb op WRITE) (Call.write (byte_in first) (byte_in second))
    (cond (eqb op CYCLE) (Call.cycle (byte_in first))
    (cond (eqb op JUMP) (Call.jump (byte_in first) second)
    (cond (eqb op TRACE) (Call.trace (part_of lent first second))
    (cond (eqb op LOOK) (Call.look (byte_in first) second)
    (cond (eqb op OFFER) Call.offer
    (cond (eqb op TAKE) Call.take
    (cond (eqb op WAKE) (Call.wake (byte_in first) second)
    Call.return)))))))))

-- Its answer

-- the numbers that an answer has room for, and its words: its code, how many numbers it gives or the mark of none, and the numbers
abbrev pub most_numbers : ℕ
most_numbers = 4

abbrev pub answer_words : ℕ
answer_words = 6

abbrev pub none_mark : ℕ
none_mark = 2 ^ 64 - 1

abbrev pub count_of : Value → ℕ
count_of (numbers ns) = length ns
count_of none = none_mark

abbrev pub numbers_of : Value → List ℕ
numbers_of (numbers ns) = ns
numbers_of none = []

-- n numbers: those of a list, and 0 past them
abbrev pub padded : ℕ → List ℕ → List ℕ
padded zero ns = []
padded (suc n) [] = 0 ∷ padded n []
padded (suc n) (m ∷ ns) = m ∷ padded n ns

-- a reply as a row
abbrev pub row_of : Reply → List ℕ
row_of r = r.code ∷ count_of r.value ∷ padded most_numbers (numbers_of r.value)

-- The reply to an outcome of the code, by the kinds of calls: one that gives nothing, a number, a jump's or a trace run's numbers, and a
-- number or none

abbrev pub plain_reply : Result (Unit {0}) Refusal → Reply
plain_reply o = says (code_of o) nothing

abbrev pub number_reply : Result ℕ Refusal → Reply
number_reply (Ok n) = says 0 (number n)
number_reply (Err e) = says (number_of e) (number 0)

abbrev pub jump_reply : Result Jumped Refusal → Reply
jump_reply (Ok j) = says 0 (numbers (listed_with j.totals j.rounds))
jump_reply (Err e) = says (number_of e) (numbers (listed_with no_totals 0))

abbrev pub run_reply : Result Totals Refusal → Reply
run_reply (Ok t) = says 0 (numbers (listed t))
run_reply (Err e) = says (number_of e) (numbers (listed no_totals))

abbrev pub sought_reply : Result (Option ℕ) Refusal → Reply
sought_reply (Ok (Some n)) = says 0 (number n)
sought_reply (Ok None) = says 0 none
sought_reply (Err e) = says (number_of e) (number 0)
