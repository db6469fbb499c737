-- Every list of calls whose arguments fit their types is spelled by a script: call by call, each naming its own part of
-- the lent entries.
use Prim.Native.Nat.{ℕ, ◌+◌, ◌*◌, ◌/◌, ◌^◌, ◌<◌, min}
use mathlib.Core.Path.{◌≡◌, refl, sym, ap, ap₂, ◌∙◌}
use mathlib.Core.List.{List, [], ◌∷◌, ◌++◌, append_assoc}
use native.Mathlib.Nat.{mod-eq_of_lt, add-sub_cancel_left, min-eq_left}
use native.Mathlib.Omega.{arith}
use lib.ListN.{length, length-append}
use lib.Seq.{take-append_seam, drop-append_seam}
use borrow.Author.Tests.{le-leb}
use Rattle.machine.specs.Lists.{Call}
use Rattle.calls.specs.Row.{answer_words, part_of, call_of}
use Rattle.lists.specs.Script.{call_words, calls_in, calls_of, rows}
use Rattle.lists.specs.Spelling.{Each, In, Addressable, Fits, entries_of, spell, rows_of_calls, lent_of, script_of, Room, Spells}

-- a part that stands between others
part_here : (pre es post : List ℕ) → part_of (pre ++ (es ++ post)) (length pre) (length pre + length es) ≡ es
unfolding part_of
part_here pre es post =
    let first = le-leb (length pre) (length pre + length es) (omega arith) in
    let last =
    le-leb (length pre + length es) (length (pre ++ (es ++ post)))
    (omega (arith, length-append pre (es ++ post), length-append es post)) in
    simp (first, last, drop-append_seam pre (es ++ post), add-sub_cancel_left, take-append_seam es post)

-- one call
spelled_here : (c : Call) (pre post : List ℕ) → Fits c
    → call_of (spell (length pre) c).op (spell (length pre) c).first (spell (length pre) c).second (pre ++ (entries_of c ++ post)) ≡ c
unfolding Fits spell entries_of call_of
spelled_here (Call.reset kind) pre post f = ap Call.reset (mod-eq_of_lt f)
spelled_here (Call.read a) pre post f = ap Call.read (mod-eq_of_lt f)
spelled_here (Call.write a v) pre post f = ap₂ Call.write (mod-eq_of_lt f.0) (mod-eq_of_lt f.1)
spelled_here (Call.cycle pins) pre post f = ap Call.cycle (mod-eq_of_lt f)
spelled_here (Call.jump pins n) pre post f = ap (λ (p : ℕ). Call.jump p n) (mod-eq_of_lt f.0)
spelled_here (Call.trace es) pre post f = ap Call.trace (part_here pre es post)
spelled_here (Call.look pins n) pre post f = ap (λ (p : ℕ). Call.look p n) (mod-eq_of_lt f.0)
spelled_here Call.offer pre post f = refl
spelled_here Call.take pre post f = refl
spelled_here Call.return pre post f = refl
spelled_here (Call.wake pins n) pre post f = ap (λ (p : ℕ). Call.wake p n) (mod-eq_of_lt f.0)

spelled_all : (cs : List Call) (pre : List ℕ) → Each Fits cs
    → calls_in (length cs) (rows_of_calls (length pre) cs) (pre ++ lent_of cs) ≡ cs
unfolding calls_in rows_of_calls lent_of Each
spelled_all [] pre f = refl
spelled_all (c ∷ cs) pre f =
    ap₂ (λ (d : Call) (ds : List Call). d ∷ ds) (spelled_here c pre (lent_of cs) f.0)
    (ap₂ (λ (j : ℕ) (l : List ℕ). calls_in (length cs) (rows_of_calls j cs) l) (sym (length-append pre (entries_of c)))
    (sym (append_assoc pre (entries_of c) (lent_of cs)))
    ∙ spelled_all cs (pre ++ entries_of c) f.1)

-- The slices

-- the words of a row fit
record Words (k : ℕ) (c : Call) : Type 0 where
  op : In 8 (spell k c).op
  first : In 8 (spell k c).first
  second : In 8 (spell k c).second

words_fit : (k : ℕ) (c : Call) → Fits c → k + length (entries_of c) < 2 ^ 63 → Words k c
unfolding spell entries_of Fits
words_fit k (Call.reset kind) f h = record { op = omega arith; first = omega arith; second = omega arith }
words_fit k (Call.read a) f h = record { op = omega arith; first = omega arith; second = omega arith }
words_fit k (Call.write a v) f h = let g = f.0 in let e = f.1 in record { op = omega arith; first = omega arith; second = omega arith }
words_fit k (Call.cycle pins) f h = record { op = omega arith; first = omega arith; second = omega arith }
words_fit k (Call.jump pins n) f h = let g = f.0 in record { op = omega arith; first = omega arith; second = f.1 }
words_fit k (Call.trace es) f h = record { op = omega arith; first = omega arith; second = omega arith }
words_fit k (Call.look pins n) f h = let g = f.0 in record { op = omega arith; first = omega arith; second = f.1 }
words_fit k Call.offer f h = record { op = omega arith; first = omega arith; second = omega arith }
words_fit k Call.take f h = record { op = omega arith; first = omega arith; second = omega arith }
words_fit k Call.return f h = record { op = omega arith; first = omega arith; second = omega arith }
words_fit k (Call.wake pins n) f h = let g = f.0 in record { op = omega arith; first = omega arith; second = f.1 }

rows_fit : (k : ℕ) (cs : List Call) → Each Fits cs → k + length (lent_of cs) < 2 ^ 63 → Each (In 8) (rows_of_calls k cs)
unfolding lent_of rows_of_calls Each
rows_fit k [] f h = tt
rows_fit k (c ∷ cs) f h =
    let e = length-append (entries_of c) (lent_of cs) in
    let w = words_fit k c f.0 (omega arith) in
    (w.op, (w.first, (w.second, rows_fit (k + length (entries_of c)) cs f.1 (omega arith))))

rows_long : (k : ℕ) (cs : List Call) → length (rows_of_calls k cs) ≡ length cs * call_words
unfolding rows_of_calls
rows_long k [] = refl
rows_long k (c ∷ cs) = let e = rows_long (k + length (entries_of c)) cs in omega arith

entries_fit : (c : Call) → Fits c → Each (In 4) (entries_of c)
unfolding entries_of Fits Each
entries_fit (Call.reset kind) f = tt
entries_fit (Call.read a) f = tt
entries_fit (Call.write a v) f = tt
entries_fit (Call.cycle pins) f = tt
entries_fit (Call.jump pins n) f = tt
entries_fit (Call.trace es) f = f
entries_fit (Call.look pins n) f = tt
entries_fit Call.offer f = tt
entries_fit Call.take f = tt
entries_fit Call.return f = tt
entries_fit (Call.wake pins n) f = tt

each_append : (size : ℕ) (xs ys : List ℕ) → Each (In size) xs → Each (In size) ys → Each (In size) (xs ++ ys)
unfolding Each
each_append size [] ys f g = g
each_append size (x ∷ xs) ys f g = (f.0, each_append size xs ys f.1 g)

lent_fits : (cs : List Call) → Each Fits cs → Each (In 4) (lent_of cs)
unfolding lent_of Each
lent_fits [] f = tt
lent_fits (c ∷ cs) f = each_append 4 (entries_of c) (lent_of cs) (entries_fit c f.0) (lent_fits cs f.1)

pub spelled : (cs : List Call) → Each Fits cs → Addressable 8 (length cs * call_words) → Addressable 4 (length (lent_of cs))
    → Spells (script_of cs) cs
unfolding calls_of rows
spelled cs f a b =
    record {
      calls = record { elements = rows_fit 0 cs f (omega arith); addressable = rw (rows_long 0 cs) a };
      lent = record { elements = lent_fits cs f; addressable = b };
      spelled = λ answers r. calls answers r;
    }
  where
    whole : (answers : List ℕ) → Room (length cs) answers
        → min (length (rows_of_calls 0 cs) / call_words) (length answers / answer_words) ≡ length cs
    whole answers r =
        let e : length (rows_of_calls 0 cs) / call_words ≡ length cs = omega (arith, rows_long 0 cs) in
        rw e (min-eq_left (omega arith))

    calls : (answers : List ℕ) → Room (length cs) answers → calls_of (script_of cs) answers ≡ cs
    calls answers r = rw (whole answers r) (spelled_all cs [] f)
