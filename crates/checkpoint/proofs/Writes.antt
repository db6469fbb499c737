-- `write` before its part n: what is still to write comes to the whole file. By a step for each part.
use Prim.Native.Nat.{ℕ, suc, ◌+◌, ◌<◌, ◌≤◌}
use mathlib.Core.Path.{◌≡◌, refl, sym, ap, ap₂, ◌∙◌}
use mathlib.Core.List.{List, [], ◌∷◌, ◌++◌}
use native.Mathlib.Omega.{arith}
use lib.ListN.{length, drop, length-append, drop_of_length-le}
use lib.Seq.{drop-cons}
use Rattle.machine.specs.declared.Part.{Part}
use Rattle.machine.specs.declared.Part.TheVariants.{Mark}
use Rattle.machine.specs.Checkpoint.{bytes_of, layout, width_of, number_at, written}
use Rattle.laws.specs.Rows.{put}
use Rattle.laws.proofs.Rows.{put_length, put_append, put_all}
use Rattle.layout.specs.Order.{part_count, part_at, length_of}
use Rattle.layout.proofs.Bytes.{bytes_length}
use Rattle.layout.proofs.Order.{Kind, part_is, layout_long, file_long}

-- the parts from the n-th on
abbrev pub parts_from : ℕ → ℕ → List Part
parts_from kind n = drop n (layout kind)

pub parts_on : (kind n : ℕ) → Kind kind → n < part_count kind → parts_from kind n ≡ part_at kind n ∷ parts_from kind (n + 1)
parts_on kind n k h =
    let e : suc n ≡ n + 1 = omega arith in
    drop-cons (layout kind) n (Mark 0) (omega (arith, layout_long kind k))
    ∙ ap₂ (λ (p : Part) (m : ℕ). p ∷ drop m (layout kind)) (sym (part_is kind n k h)) e

pub parts_out : (kind n : ℕ) → Kind kind → part_count kind ≤ n → parts_from kind n ≡ []
parts_out kind n k h =
    let l : length (layout kind) ≤ n = omega (arith, layout_long kind k) in
    drop_of_length-le (layout kind) l

pub record Writing (kind : ℕ) (values before now : List ℕ) (n at : ℕ) : Type 0 where
  pub within : n ≤ part_count kind
  pub rest : put (written (parts_from kind n) values) at now ≡ put (written (layout kind) values) 0 before
  pub long : length now ≡ length before
  pub room : at + length (written (parts_from kind n) values) ≡ length before

module _ (kind : ℕ) (values before : List ℕ) (k : Kind kind) where
  pub write_first : length before ≡ length_of kind → Writing kind values before before 0 0
  write_first e =
      record {
        within = omega arith;
        rest = refl;
        long = refl;
        room = omega (arith, file_long kind values k);
      }

  module _ (now : List ℕ) (n at : ℕ) (w : Writing kind values before now n at) where
    abbrev here : Part
    here = part_at kind n

    abbrev bytes : List ℕ
    bytes = bytes_of (width_of here) (number_at values here)

    on : n < part_count kind → written (parts_from kind n) values ≡ bytes ++ written (parts_from kind (n + 1)) values
    unfolding written
    on h = ap (λ (parts : List Part). written parts values) (parts_on kind n k h)

    -- the part's bytes have room
    pub write_room : n < part_count kind → at + width_of here ≤ length now
    write_room h =
        let r = w.room in
        let l = w.long in
        omega (arith, ap length (on h), length-append bytes (written (parts_from kind (n + 1)) values), bytes_length (width_of here) (number_at values here))

    pub write_on : n < part_count kind → Writing kind values before (put bytes at now) (n + 1) (at + width_of here)
    write_on h =
        let more = written (parts_from kind (n + 1)) values in
        let r = w.room in
        let wide = bytes_length (width_of here) (number_at values here) in
        record {
          within = omega arith;
          rest =
              ap (λ (j : ℕ). put more (at + j) (put bytes at now)) (sym wide)
              ∙ (sym (put_append bytes more at now) ∙ (ap (λ (row : List ℕ). put row at now) (sym (on h)) ∙ w.rest));
          long = put_length bytes at now ∙ w.long;
          room = omega (arith, ap length (on h), length-append bytes more, wide);
        }

    pub write_out : length before ≡ length_of kind → part_count kind ≤ n → now ≡ written (layout kind) values
    unfolding put written
    write_out e h =
        let none = parts_out kind n k h in
        let r : put [] at now ≡ put (written (layout kind) values) 0 before =
        ap (λ (parts : List Part). put (written parts values) at now) (sym none) ∙ w.rest in
        r ∙ put_all (written (layout kind) values) before (file_long kind values k ∙ sym e)
