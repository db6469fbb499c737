-- The parts by their numbers are the list's, in its order: computed for each of them, of both kinds. And how long a file is.
use Prim.Native.Nat.{ℕ, ◌+◌, ◌<◌, ◌≤◌}
use mathlib.Core.Path.{◌≡◌, refl, sym, ap, ap₂, subst, ◌∙◌}
use mathlib.Core.Bool.{Bool, true, false, ◌&&◌, true≢false}
use mathlib.Core.List.{List, [], ◌∷◌}
use mathlib.Core.Logic.{◌⊎◌, inl, inr}
use lib.Dec.{T, eqb, leb, ltb}
use lib.ListN.{length, get_or, length-append}
use borrow.Author.Tests.{eqb-true, leb-true, ltb-true}
use Rattle.machine.specs.declared.Part.{Part}
use Rattle.machine.specs.declared.Part.TheVariants.{Mark, Value}
use Rattle.machine.specs.Registers.{table, implemented_in, implemented}
use Rattle.machine.specs.Checkpoint.{places, joined, section, register_entries, number_entries, time_entries, layout, bytes_of, width_of, number_at, written}
use Rattle.machine.proofs.Choices.{and_two}
use Rattle.laws.proofs.Tests.{all, at}
use Rattle.registers.specs.Places.{row_at}
use Rattle.layout.specs.Order.{register_part, number_part, time_part, part_count, part_at, length_of, place_of}
use Rattle.layout.proofs.Bytes.{bytes_length}

-- two parts compared
same : Part → Part → Bool
same (Mark m) (Mark n) = eqb m n
same (Mark m) (Value p w) = false
same (Value p w) (Mark n) = false
same (Value p w) (Value q v) = eqb p q && eqb w v

same_is : (p q : Part) → same p q ≡ true → p ≡ q
unfolding same
same_is (Mark m) (Mark n) e = ap Mark (eqb-true m n e)
same_is (Mark m) (Value p w) e = absurd (true≢false (sym e))
same_is (Value p w) (Mark n) e = absurd (true≢false (sym e))
same_is (Value p w) (Value q v) e =
    let h = and_two (eqb p q) (eqb w v) e in
    λ i. Value (eqb-true p q h.0 i) (eqb-true w v h.1 i)

-- a part is the list's, has a place among the values, and no more than eight bytes
sized : Part → Bool
sized p = ltb (place_of p) places && leb (width_of p) 8

agrees : ℕ → ℕ → Bool
agrees kind n = same (part_at kind n) (get_or (layout kind) n (Mark 0)) && sized (part_at kind n)

tested51 : T (all (agrees 51) 66)
unfolding agrees same sized part_at register_part number_part time_part row_at layout section joined register_entries number_entries time_entries implemented implemented_in table
tested51 = tt

tested52 : T (all (agrees 52) 76)
unfolding agrees same sized part_at register_part number_part time_part row_at layout section joined register_entries number_entries time_entries implemented implemented_in table
tested52 = tt

holds : (b : Bool) → T b → b ≡ true
holds true t = refl
holds false t = absurd t

-- a kind, 51 or 52
abbrev pub Kind : ℕ → Type 0
Kind kind = (kind ≡ 51) ⊎ (kind ≡ 52)

agree : (kind n : ℕ) → Kind kind → n < part_count kind → agrees kind n ≡ true
agree kind n (inl e) h = rw e (holds (agrees 51 n) (at (agrees 51) 66 tested51 n (rw e at h)))
agree kind n (inr e) h = rw e (holds (agrees 52 n) (at (agrees 52) 76 tested52 n (rw e at h)))

module _ (kind n : ℕ) (k : Kind kind) (h : n < part_count kind) where
  pub part_is : part_at kind n ≡ get_or (layout kind) n (Mark 0)
  unfolding agrees
  part_is = same_is _ _ (and_two _ _ (agree kind n k h)).0

  tests : (ltb (place_of (part_at kind n)) places && leb (width_of (part_at kind n)) 8) ≡ true
  unfolding agrees sized
  tests = (and_two (same (part_at kind n) (get_or (layout kind) n (Mark 0))) _ (agree kind n k h)).1

  pub part_placed : place_of (part_at kind n) < places
  part_placed = ltb-true _ _ (and_two (ltb (place_of (part_at kind n)) places) (leb (width_of (part_at kind n)) 8) tests).0

  pub part_narrow : width_of (part_at kind n) ≤ 8
  part_narrow = leb-true _ _ (and_two (ltb (place_of (part_at kind n)) places) (leb (width_of (part_at kind n)) 8) tests).1

-- how many parts there are
pub layout_long : (kind : ℕ) → Kind kind → length (layout kind) ≡ part_count kind
unfolding layout section joined register_entries number_entries time_entries implemented implemented_in table
layout_long kind (inl e) = subst (λ (k : ℕ). length (layout k) ≡ part_count k) (sym e) refl
layout_long kind (inr e) = subst (λ (k : ℕ). length (layout k) ≡ part_count k) (sym e) refl

-- how many bytes they have
abbrev widths : List Part → ℕ
widths [] = 0
widths (p ∷ parts) = width_of p + widths parts

written_widths : (parts : List Part) (values : List ℕ) → length (written parts values) ≡ widths parts
unfolding written
written_widths [] values = refl
written_widths (p ∷ parts) values =
    length-append (bytes_of (width_of p) (number_at values p)) (written parts values)
    ∙ ap₂ ◌+◌ (bytes_length (width_of p) (number_at values p)) (written_widths parts values)

layout_widths : (kind : ℕ) → Kind kind → widths (layout kind) ≡ length_of kind
unfolding layout section joined register_entries number_entries time_entries implemented implemented_in table
layout_widths kind (inl e) = subst (λ (k : ℕ). widths (layout k) ≡ length_of k) (sym e) refl
layout_widths kind (inr e) = subst (λ (k : ℕ). widths (layout k) ≡ length_of k) (sym e) refl

pub file_long : (kind : ℕ) (values : List ℕ) → Kind kind → length (written (layout kind) values) ≡ length_of kind
file_long kind values k = written_widths (layout kind) values ∙ layout_widths kind k
