-- A replay before its call i: the answers written so far, with what the plain machine answers to the rest, are what it answers to all.
-- By a step for each call.
use Prim.Native.Nat.{ℕ, zero, suc, ◌+◌, ◌-◌, ◌*◌, ◌/◌, ◌≤◌, ◌<◌, min}
use mathlib.Core.Path.{◌≡◌, refl, sym, ap, ap₂, ◌∙◌}
use mathlib.Core.List.{List, [], ◌∷◌, ◌++◌, append_assoc}
use native.Mathlib.Nat.{sub-zero, zero-add, min-le_left, min-le_right}
use native.Mathlib.Omega.{arith}
use lib.ListN.{length, drop, take, set, get_or, length-append, take-append-drop}
use lib.Seq.{get_or-drop, drop-drop}
use borrow.Rule.Slice.PartMut.{put_mid, Post-is}
use Rattle.machine.specs.declared.Device.{Device}
use Rattle.machine.specs.Lists.{Call, Reply, Ran, play, run}
use Rattle.calls.specs.Row.{call_of, most_numbers, answer_words, count_of, numbers_of, padded, row_of}
use Rattle.lists.specs.Script.{Script, call_words, first_call, calls_in, calls_of, rows_of, written, rows, Answered}
use Rattle.laws.specs.Rows.{put}
use Rattle.laws.proofs.Rows.{put_length, put_take, put_drop}

-- the calls from row i on, of n in all
abbrev pub rest : Script → ℕ → ℕ → List Call
rest s n i = calls_in (n - i) (drop (i * call_words) s.calls) s.lent

-- the call of row i, as the code reads it
abbrev pub call_at : Script → ℕ → Call
call_at s i =
    call_of (get_or s.calls (i * call_words) 0) (get_or s.calls (i * call_words + 1) 0) (get_or s.calls (i * call_words + 2) 0) s.lent

first_is : (s : Script) (i : ℕ) → first_call (drop (i * call_words) s.calls) s.lent ≡ call_at s i
first_is s i =
    let at = i * call_words in
    let e : at + 0 ≡ at = omega arith in
    λ j. call_of ((get_or-drop at s.calls 0 0 ∙ ap (λ (k : ℕ). get_or s.calls k 0) e) j) (get_or-drop at s.calls 1 0 j)
    (get_or-drop at s.calls 2 0 j) s.lent

rest_on : (s : Script) (n i : ℕ) → i < n → rest s n i ≡ call_at s i ∷ rest s n (i + 1)
unfolding calls_in
rest_on s n i h =
    let e : n - i ≡ suc (n - (i + 1)) = omega arith in
    let f : i * call_words + call_words ≡ (i + 1) * call_words = omega arith in
    ap (λ (k : ℕ). calls_in k (drop (i * call_words) s.calls) s.lent) e
    ∙ ap₂ (λ (c : Call) (xs : List ℕ). c ∷ calls_in (n - (i + 1)) xs s.lent) (first_is s i)
    (drop-drop call_words (i * call_words) s.calls ∙ ap (λ (k : ℕ). drop k s.calls) f)

rest_none : (s : Script) (n i : ℕ) → n ≤ i → rest s n i ≡ []
unfolding calls_in
rest_none s n i h =
    let e : n - i ≡ 0 = omega arith in
    rw e

-- the answers before call i: as far as they are written, then the rows of the replies still to come
abbrev pub Writing : (all left : List Reply) (before now : List ℕ) → ℕ → Type 0
Writing all left before now i =
    take (i * answer_words) now ++ (rows_of left ++ drop (i * answer_words + length (rows_of left)) now) ≡ written all before

-- a row has so many words
padded_long : (n : ℕ) (ns : List ℕ) → length (padded n ns) ≡ n
padded_long zero ns = refl
padded_long (suc n) [] = ap suc (padded_long n [])
padded_long (suc n) (m ∷ ns) = ap suc (padded_long n ns)

pub row_long : (r : Reply) → length (row_of r) ≡ answer_words
row_long r = ap (λ (n : ℕ). suc (suc n)) (padded_long most_numbers (numbers_of r.value))

module _ (all : List Reply) (before now : List ℕ) (i : ℕ) where
  written_on : (r : Reply) (left : List Reply) → i * answer_words + answer_words ≤ length now → Writing all (r ∷ left) before now i
      → Writing all left before (put (row_of r) (i * answer_words) now) (i + 1)
  unfolding rows_of
  written_on r left h w =
      let at = i * answer_words in
      let e : (i + 1) * answer_words ≡ at + answer_words = omega arith in
      let l = length (rows_of left) in
      let w3 = row_long r in
      let f : at + answer_words + l ≡ at + length (row_of r ++ rows_of left) = omega (arith, length-append (row_of r) (rows_of left)) in
      let to : at + length (row_of r) ≡ at + answer_words = omega arith in
      ap (λ (k : ℕ). take k (put (row_of r) at now) ++ (rows_of left ++ drop (k + l) (put (row_of r) at now))) e
      ∙ ((λ j. (ap (λ (k : ℕ). take k (put (row_of r) at now)) (sym to) ∙ put_take (row_of r) at now (omega arith)) j ++ (rows_of left ++ put_drop (row_of r) at (at + answer_words + l) now (omega arith) j))
      ∙ (append_assoc (take at now) (row_of r) (rows_of left ++ drop (at + answer_words + l) now)
      ∙ (ap (λ (xs : List ℕ). take at now ++ xs) (sym (append_assoc (row_of r) (rows_of left) (drop (at + answer_words + l) now)))
      ∙ (ap (λ (k : ℕ). take at now ++ ((row_of r ++ rows_of left) ++ drop k now)) f ∙ w))))

  written_out : Writing all [] before now i → now ≡ written all before
  unfolding rows_of
  written_out w =
      let e : i * answer_words + 0 ≡ i * answer_words = omega arith in
      sym (take-append-drop (i * answer_words) now) ∙ (ap (λ (k : ℕ). take (i * answer_words) now ++ drop k now) (sym e) ∙ w)

-- the words of a row; stored one by one they are the row in its place
words : (r : Reply)
    → row_of r
    ≡ get_or (row_of r) 0 0 ∷ get_or (row_of r) 1 0 ∷ get_or (row_of r) 2 0 ∷ get_or (row_of r) 3 0 ∷ get_or (row_of r) 4 0 ∷ get_or (row_of r) 5 0 ∷ []
words r = ap (λ (ns : List ℕ). r.code ∷ count_of r.value ∷ ns) (go (numbers_of r.value))
  where
    go : (ns : List ℕ)
        → padded most_numbers ns
        ≡ get_or (padded most_numbers ns) 0 0
        ∷ get_or (padded most_numbers ns) 1 0
        ∷ get_or (padded most_numbers ns) 2 0
        ∷ get_or (padded most_numbers ns) 3 0
        ∷ []
    go [] = refl
    go (n ∷ []) = refl
    go (n ∷ m ∷ []) = refl
    go (n ∷ m ∷ k ∷ []) = refl
    go (n ∷ m ∷ k ∷ l ∷ ns) = refl

abbrev pub stored : List ℕ → ℕ → List ℕ → List ℕ
stored row at xs =
    set
    (set (set (set (set (set xs at (get_or row 0 0)) (at + 1) (get_or row 1 0)) (at + 2) (get_or row 2 0)) (at + 3) (get_or row 3 0)) (at + 4) (get_or row 4 0))
    (at + 5) (get_or row 5 0)

stored_is : (r : Reply) (at : ℕ) (xs : List ℕ) → stored (row_of r) at xs ≡ put (row_of r) at xs
unfolding put
stored_is r at xs =
    let e : at + 2 ≡ at + 1 + 1 = omega arith in
    let f : at + 3 ≡ at + 1 + 1 + 1 = omega arith in
    let g : at + 4 ≡ at + 1 + 1 + 1 + 1 = omega arith in
    let h : at + 5 ≡ at + 1 + 1 + 1 + 1 + 1 = omega arith in
    let row = row_of r in
    (λ i. set
    (set (set (set (set (set xs at (get_or row 0 0)) (at + 1) (get_or row 1 0)) (e i) (get_or row 2 0)) (f i) (get_or row 3 0)) (g i) (get_or row 4 0))
    (h i) (get_or row 5 0))
    ∙ sym (ap (λ (ws : List ℕ). put ws at xs) (words r))

-- the code copies a row into its place
copied_is : (row : List ℕ) (at : ℕ) (xs : List ℕ) → at + length row ≤ length xs
    → take at xs ++ (row ++ drop (at + length row) xs) ≡ put row at xs
copied_is row at xs h =
    let k = at + length row in
    sym (append_assoc (take at xs) row (drop k xs))
    ∙ ((λ i. sym (put_take row at xs h) i ++ sym (put_drop row at k xs (omega arith)) i) ∙ take-append-drop k (put row at xs))

pub put_back_is : (row : List ℕ) (at : ℕ) (xs : List ℕ) → length row ≡ answer_words → at + answer_words ≤ length xs
    → put_mid at (at + answer_words - at) xs row ≡ put row at xs
put_back_is row at xs e h =
    let long : at + answer_words ≡ at + length row = omega arith in
    ap (λ (ys : List ℕ). take at xs ++ (row ++ ys)) (Post-is at (at + answer_words) xs (omega arith) ∙ ap (λ (k : ℕ). drop k xs) long)
    ∙ copied_is row at xs (omega arith)

-- the whole list
abbrev whole : Script → List ℕ → Device → Ran
whole s answers d = run (calls_of s answers) d

pub record Halfway (s : Script) (n : ℕ) (d₀ : Device) (before now : List ℕ) (d : Device) (i : ℕ) : Type 0 where
  pub within : i ≤ n
  pub calls : n * call_words ≤ length s.calls
  pub room : n * answer_words ≤ length before
  pub long : length now ≡ length before
  pub state : (run (rest s n i) d).device ≡ (whole s before d₀).device
  pub answers : Writing (whole s before d₀).replies (run (rest s n i) d).replies before now i

module _ (s : Script) (n : ℕ) (d₀ : Device) (before : List ℕ) where
  pub at_first : n ≡ min (length s.calls / call_words) (length before / answer_words) → Halfway s n d₀ before before d₀ 0
  unfolding calls_of rows written
  at_first e =
      record {
        within = omega arith;
        calls = omega (arith, min-le_left (length s.calls / call_words) (length before / answer_words));
        room = omega (arith, min-le_right (length s.calls / call_words) (length before / answer_words));
        long = refl;
        state = rw (e, sub-zero);
        answers = rw (e, sub-zero) (ap (λ (k : ℕ). rows_of (whole s before d₀).replies ++ drop k before) (zero-add (length (rows_of (whole s before d₀).replies))));
      }

  module _ {now : List ℕ} {d : Device} {i : ℕ} (w : Halfway s n d₀ before now d i) where
    -- the words of row i have room
    pub fits_at : i < n → (k : ℕ) → k < answer_words → i * answer_words + k < length now
    fits_at h k l = let e = w.long in let r = w.room in omega arith

    played_row : i < n
        → Halfway s n d₀ before (put (row_of (play (call_at s i) d).reply) (i * answer_words) now) (play (call_at s i) d).device (i + 1)
    unfolding run
    played_row h =
        let on = rest_on s n i h in
        let all = (whole s before d₀).replies in
        record {
          within = omega arith;
          calls = w.calls;
          room = w.room;
          long = put_length (row_of (play (call_at s i) d).reply) (i * answer_words) now ∙ w.long;
          state = rw on at w.state;
          answers = written_on all before now i _ _ (let l = w.long in let r = w.room in omega arith) (rw on at w.answers);
        }

    pub played_on : {row : List ℕ} {e : Device} → i < n → row ≡ row_of (play (call_at s i) d).reply → e ≡ (play (call_at s i) d).device
        → Halfway s n d₀ before (put_mid (i * answer_words) (i * answer_words + answer_words - i * answer_words) now row) e (i + 1)
    played_on {row} h r e =
        let long : length row ≡ answer_words = ap length r ∙ row_long (play (call_at s i) d).reply in
        let l = w.long in
        let room = w.room in
        rw (put_back_is row (i * answer_words) now long (omega arith), r, e) (played_row h)

    pub played_out : n ≤ i → Answered (whole s before d₀) d before now
    unfolding run
    played_out h =
        let none = rest_none s n i h in
        record {
          state = rw none at w.state;
          answers = written_out (whole s before d₀).replies before now i (rw none at w.answers);
        }
