-- Request Ten as it asks for it: the shares are fair, by induction on the wishes, and no others are. For at the first place where two
-- fair lists differ, one tunnel is not filled to its wish, so that all later ones have their first parts alone, and the sums differ.
use Rattle.std.proofs.Common.{ℕ, zero, suc, ◌+◌, ◌-◌, ◌*◌, ◌≤◌, ◌<◌, min, ◌≡◌, refl, sym, ap, ◌∙◌, List, [], ◌∷◌, div-mul-le_self, mul-suc, arith, ltb, length, get_or, ltb-true, ltb-false}
use Rattle.machine.proofs.Choices.{by_test, clash}
use Rattle.slices.specs.Shares.{Shared, tunnels_ok, slice_ok, total, equal_part, first_parts, over_of, lack, goes_round, shares_of, shares_answer}
use Rattle.shares.specs.Fair.{Fair, Says, Shares}
use Rattle.shares.specs.Fair.Says.{given, bad_tunnels, bad_wish}
use Rattle.shares.proofs.Answers.{sized, sized_met, limited, limited_met, bad_tunnels_lem, bad_wish_lem, shared}

-- The sum

-- what each tunnel lacks after its first part
unfoldable lacks : ℕ → List ℕ → List ℕ
lacks part [] = []
lacks part (w ∷ ws) = lack part w ∷ lacks part ws

-- all shares: the first parts, and what is over as far as it is lacked
round_total : (part over : ℕ) (ws : List ℕ)
    → total (goes_round part over ws) ≡ total (first_parts part ws) + min over (total (lacks part ws))
unfolding goes_round total first_parts lacks
round_total part over [] = omega arith
round_total part over (w ∷ ws) =
    rw (round_total part (over - min (lack part w) over) ws)
    (sums (min w part) (lack part w) over (total (first_parts part ws)) (total (lacks part ws)))
  where
    sums : (p l o q m : ℕ) → p + min l o + (q + min (o - min l o) m) ≡ p + q + min o (l + m)
    sums p l o q m = omega arith

-- the first parts and what is lacked are the wishes
parts_lacks : (part : ℕ) (ws : List ℕ) → total (first_parts part ws) + total (lacks part ws) ≡ total ws
unfolding total first_parts lacks
parts_lacks part [] = refl
parts_lacks part (w ∷ ws) = let r = parts_lacks part ws in omega arith

-- and the first parts are no more than the slice
parts_most : (part : ℕ) (ws : List ℕ) → total (first_parts part ws) ≤ part * length ws
unfolding total first_parts
parts_most part [] = omega arith
parts_most part (w ∷ ws) = let r = parts_most part ws in omega (arith, mul-suc part (length ws))

-- Each share, with a first part of any size

record FairBy (part : ℕ) (ws out : List ℕ) : Type 0 where
  each : length out ≡ length ws
  most : (i : ℕ) → i < length ws → get_or out i 0 ≤ get_or ws i 0
  least : (i : ℕ) → i < length ws → min (get_or ws i 0) part ≤ get_or out i 0
  order : (i j : ℕ) → i < j → j < length ws → get_or out i 0 < get_or ws i 0 → get_or out j 0 ≡ min (get_or ws j 0) part

round_each : (part over : ℕ) (ws : List ℕ) → length (goes_round part over ws) ≡ length ws
unfolding goes_round
round_each part over [] = refl
round_each part over (w ∷ ws) = ap suc (round_each part (over - min (lack part w) over) ws)

round_most : (part over : ℕ) (ws : List ℕ) (i : ℕ) → i < length ws → get_or (goes_round part over ws) i 0 ≤ get_or ws i 0
unfolding goes_round
round_most part over [] i h = absurd (omega arith)
round_most part over (w ∷ ws) zero h = omega arith
round_most part over (w ∷ ws) (suc i) h = round_most part (over - min (lack part w) over) ws i (omega arith)

round_least : (part over : ℕ) (ws : List ℕ) (i : ℕ) → i < length ws → min (get_or ws i 0) part ≤ get_or (goes_round part over ws) i 0
unfolding goes_round
round_least part over [] i h = absurd (omega arith)
round_least part over (w ∷ ws) zero h = omega arith
round_least part over (w ∷ ws) (suc i) h = round_least part (over - min (lack part w) over) ws i (omega arith)

-- nothing over: the first parts
none_over : (part over : ℕ) (ws : List ℕ) (i : ℕ) → over ≡ 0 → i < length ws → get_or (goes_round part over ws) i 0 ≡ min (get_or ws i 0) part
unfolding goes_round
none_over part over [] i e h = absurd (omega arith)
none_over part over (w ∷ ws) zero e h = omega arith
none_over part over (w ∷ ws) (suc i) e h = none_over part (over - min (lack part w) over) ws i (omega arith) (omega arith)

-- a tunnel that is not filled leaves nothing over
round_order : (part over : ℕ) (ws : List ℕ) (i j : ℕ) → i < j → j < length ws → get_or (goes_round part over ws) i 0 < get_or ws i 0
    → get_or (goes_round part over ws) j 0 ≡ min (get_or ws j 0) part
unfolding goes_round
round_order part over [] i j l h f = absurd (omega arith)
round_order part over (w ∷ ws) i zero l h f = absurd (omega arith)
round_order part over (w ∷ ws) zero (suc j) l h f =
    none_over part (over - min (lack part w) over) ws j (omega arith) (omega arith)
round_order part over (w ∷ ws) (suc i) (suc j) l h f =
    round_order part (over - min (lack part w) over) ws i j (omega arith) (omega arith) f

is_fair : (b : ℕ) (ws : List ℕ) → Fair b ws (shares_of b ws)
unfolding shares_of
is_fair b ws =
    let part = equal_part b ws in
    let over = over_of b ws in
    record {
      each = round_each part over ws;
      most = round_most part over ws;
      least = round_least part over ws;
      order = round_order part over ws;
      sum =
          round_total part over ws
          ∙ (let p = parts_lacks part ws in
          let m : total (first_parts part ws) ≤ b = omega (arith, parts_most part ws, div-mul-le_self b (length ws)) in
          omega arith);
    }

-- No others

-- where each is at most the other, so is the sum
total_most : (xs ys : List ℕ) → length xs ≡ length ys → ((i : ℕ) → i < length xs → get_or xs i 0 ≤ get_or ys i 0) → total xs ≤ total ys
unfolding total
total_most [] ys e f = omega arith
total_most (x ∷ xs) [] e f = absurd (omega arith)
total_most (x ∷ xs) (y ∷ ys) e f =
    let r = total_most xs ys (omega arith) (λ i h. f (suc i) (omega arith)) in
    let z = f 0 (omega arith) in
    omega arith

module _ (part w : ℕ) (ws : List ℕ) where
  -- the tunnels after the first
  later : (x : ℕ) (xs : List ℕ) → FairBy part (w ∷ ws) (x ∷ xs) → FairBy part ws xs
  later x xs p =
      let n = p.each in
      record {
        each = omega arith;
        most = λ i h. p.most (suc i) (omega arith);
        least = λ i h. p.least (suc i) (omega arith);
        order = λ i j l h f. p.order (suc i) (suc j) (omega arith) (omega arith) f;
      }

  -- the first gets less: so do all
  less : (x y : ℕ) (xs ys : List ℕ) → FairBy part (w ∷ ws) (x ∷ xs) → FairBy part (w ∷ ws) (y ∷ ys) → x < y
      → total (x ∷ xs) < total (y ∷ ys)
  unfolding total
  less x y xs ys p q l =
      let n = p.each in
      let m = q.each in
      let filled = q.most 0 (omega arith) in
      let rest =
      total_most xs ys (omega arith)
      (λ i h. rw (p.order 0 (suc i) (omega arith) (omega arith) (omega arith)) (q.least (suc i) (omega arith))) in
      omega arith

same_shares : (part : ℕ) (ws xs ys : List ℕ) → FairBy part ws xs → FairBy part ws ys → total xs ≡ total ys → xs ≡ ys
unfolding total
same_shares part [] [] [] p q e = refl
same_shares part [] [] (y ∷ ys) p q e = let n = q.each in absurd (omega arith)
same_shares part [] (x ∷ xs) ys p q e = let n = p.each in absurd (omega arith)
same_shares part (w ∷ ws) [] ys p q e = let n = p.each in absurd (omega arith)
same_shares part (w ∷ ws) (x ∷ xs) [] p q e = let n = q.each in absurd (omega arith)
same_shares part (w ∷ ws) (x ∷ xs) (y ∷ ys) p q e =
    by_test (ltb x y)
    (λ t. let l = less part w ws x y xs ys p q (ltb-true x y t) in absurd (omega arith))
    (λ t.
    by_test (ltb y x)
    (λ u. let l = less part w ws y x ys xs q p (ltb-true y x u) in absurd (omega arith))
    (λ u.
    let g : y ≤ x = ltb-false x y t in
    let h : x ≤ y = ltb-false y x u in
    let here : x ≡ y = omega arith in
    let rest = same_shares part ws xs ys (later part w ws x xs p) (later part w ws y ys q) (omega arith) in
    λ i. here i ∷ rest i))

by_part : (b : ℕ) (ws out : List ℕ) → Fair b ws out → FairBy (equal_part b ws) ws out
by_part b ws out f = record { each = f.each; most = f.most; least = f.least; order = f.order }

is_only_fair : (b : ℕ) (ws out : List ℕ) → Fair b ws out → out ≡ shares_of b ws
is_only_fair b ws out f =
    same_shares (equal_part b ws) ws out (shares_of b ws) (by_part b ws out f) (by_part b ws (shares_of b ws) (is_fair b ws))
    (f.sum ∙ sym (is_fair b ws).sum)

-- Calls

module _ (b : ℕ) (ws before : List ℕ) where
  is_so : Says b ws before (shares_answer b ws before)
  is_so =
      by_test (tunnels_ok ws (length before))
      (λ e.
      by_test (slice_ok b ws)
      (λ f. rw (sym (shared b ws before e f)) (given (sized ws (length before) e) (limited b ws f) (is_fair b ws)))
      (λ f. rw (sym (bad_wish_lem b ws before e f)) (bad_wish (sized ws (length before) e) (λ l. clash (limited_met b ws l) f))))
      (λ e. rw (sym (bad_tunnels_lem b ws before e)) (bad_tunnels (λ s. clash (sized_met ws (length before) s) e)))

  is_only : (a : Shared) → Says b ws before a → a ≡ shares_answer b ws before
  is_only a (given {after = after} s l f) =
      rw (is_only_fair b ws after f) (shared b ws before (sized_met ws (length before) s) (limited_met b ws l))
  is_only a (bad_tunnels n) =
      by_test (tunnels_ok ws (length before)) (λ e. absurd (n (sized ws (length before) e))) (λ e. bad_tunnels_lem b ws before e)
  is_only a (bad_wish s n) =
      by_test (slice_ok b ws) (λ f. absurd (n (limited b ws f)))
      (λ f. bad_wish_lem b ws before (sized_met ws (length before) s) f)

pub fair_shares : Shares
fair_shares = record { fair = is_fair; only_fair = is_only_fair; so = is_so; only = is_only }
