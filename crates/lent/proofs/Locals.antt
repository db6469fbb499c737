-- The locals of a function's parameters, whatever their number, as one entry of the context: how they are allocated, passed, read
-- and freed, by induction over their types.
use mathlib.Core.Path.{◌≡◌, refl, sym, ap, subst}
use Prim.Native.Nat.{ℕ, zero, suc}
use mathlib.Core.List.{List, [], ◌∷◌}
use seplogic.Ra.Ura.{Ura}
use base.Fraction.{full_share}
use mir.Syntax.{Ty, Local, local, value_local, Step as PStep, place, Opd as Operand, copy}
use mir.Val.{Val}
use base.Logic.{SProp, via, all, wand, all_e, apply∗}
use base.Fml.{Share, ftrue, fat, froom, fdies}
use prog.Wp.{Heap, Env, Spot, spot_of}
use types.Logic.{Logic}
use types.Kit.{Item, ‵, raw, ◌⊛◌, mean, ⋆, Goal, allocs, passes, frees, Seq, Step, step, ◌$◌, ◌∵◌, !, qed, move, drop, use1, use2, split, join, frame, each, assume, done}
use types.Run.{Walks, Finds, Opds, stop, from, load, and_then, no_more, init, forget, alloc1, pass1, pass0, free1}
use types.Part.{Part, whole, look_in}
use denote.Laws.{Typed}
use denote.Steps.{nothing}

-- where they stand
abbrev pub Places : List Ty → Type 0
Places [] = Unit {0}
Places (τ ∷ τs) = ℕ × Places τs

abbrev pub locals : List Ty → List Local → List Local
locals [] ls = ls
locals (τ ∷ τs) ls = local τ value_local ∷ locals τs ls

abbrev pub placed : (τs : List Ty) → Places τs → List (Ty × ℕ) → List (Ty × ℕ)
placed [] bs E = E
placed (τ ∷ τs) bs E = (τ, bs.0) ∷ placed τs bs.1 E

-- the local m places past the first k, and the one that follows them and m more
abbrev pub past : ℕ → ℕ → ℕ
past zero m = m
past (suc k) m = past k (suc m)

abbrev pub after : List Ty → ℕ → ℕ
after [] m = m
after (τ ∷ τs) m = suc (after τs m)

pub spot_after : {M : Type 1} (𝓤 : Ura M) (H : Heap 𝓤) (τs : List Ty) (bs : Places τs) (E : Env 𝓤 H) (m : ℕ) → spot_of 𝓤 H (placed τs bs E) (after τs m) ≡ spot_of 𝓤 H E m
spot_after 𝓤 H [] bs E m = refl
spot_after 𝓤 H (τ ∷ τs) bs E m = spot_after 𝓤 H τs bs.1 E m

-- copies of the locals past the first k
abbrev pub copies : List Ty → ℕ → List Operand
copies [] k = []
copies (τ ∷ τs) k = copy (place (past k 0) []) ∷ copies τs (suc k)

module _ {M : Type 1} {𝓤 : Ura M} where
  -- room for them, and they with values; each with what ends it
  abbrev pub rooms : (τs : List Ty) → Places τs → Item 𝓤
  rooms [] bs = ‵ ftrue
  rooms (τ ∷ τs) bs = (‵ (froom τ bs.0 zero) ⊛ ‵ (fdies τ bs.0)) ⊛ rooms τs bs.1

  abbrev pub cells : (τs : List Ty) → Places τs → List Val → Item 𝓤
  cells [] bs vs = ‵ ftrue
  cells (τ ∷ τs) bs [] = ‵ ftrue
  cells (τ ∷ τs) bs (v ∷ vs) = (‵ (fat full_share τ bs.0 zero v) ⊛ ‵ (fdies τ bs.0)) ⊛ cells τs bs.1 vs

-- the cell with any value u gives back an entry, as `back u`
abbrev Way : {M : Type 1} {𝓤 : Ura M} (𝓛 : Logic 𝓤) → Share → Ty → ℕ → ℕ → (Val → Item 𝓤) → SProp 𝓤
Way {𝓤 = 𝓤} 𝓛 q τ b o back = all 𝓤 (λ (u : Val). wand 𝓤 (𝓛.H.at q τ b o u) (mean 𝓛 (back u)))

module _ {M : Type 1} {𝓤 : Ura M} {𝓛 : Logic 𝓤} {K : Type 0} where
  open 𝓛 use {H}

  pub allocs_all : K → (τs : List Ty) {Γ : List (Item 𝓤)} {ls : List Local} {Kt : Env 𝓤 H → Goal 𝓤 H}
      → ((bs : Places τs) → Seq K 𝓛 (rooms τs bs ∷ Γ) (allocs ls (λ E. Kt (placed τs bs E)))) → Seq K 𝓛 Γ (allocs (locals τs ls) Kt)
  allocs_all t [] k = nothing t $ k tt
  allocs_all t (τ ∷ τs) k = alloc1 t (λ b. allocs_all t τs (λ bs. move t (1 ∷ 2 ∷ []) $ join t $ join t $ k (b, bs)))

  pub pass_all : K → (τs : List Ty) (vs : List Val) → Typed τs vs → (bs : Places τs) (E : Env 𝓤 H) {Γ : List (Item 𝓤)} {g : Goal 𝓤 H}
      → Step K 𝓛 (cells τs bs vs ∷ Γ) g (rooms τs bs ∷ Γ) (passes (placed τs bs E) vs g)
  pass_all t [] [] typed bs E = pass0 t
  pass_all t [] (v ∷ vs) typed bs E = absurd typed
  pass_all t (τ ∷ τs) [] typed bs E = absurd typed
  pass_all t (τ ∷ τs) (v ∷ vs) typed bs E =
      step (λ s. split t $ split t $ pass1 t (init t 0 refl typed.0) $ move t (2 ∷ []) $ pass_all t τs vs typed.1 bs.1 E $ move t (1 ∷ 2 ∷ []) $ join t $ join t $ s)

  pub free_all : K → (τs : List Ty) (vs : List Val) → Typed τs vs → (bs : Places τs) (E : Env 𝓤 H) {Γ : List (Item 𝓤)} {g : Goal 𝓤 H}
      → Step K 𝓛 Γ (frees E g) (cells τs bs vs ∷ Γ) (frees (placed τs bs E) g)
  free_all t [] [] typed bs E = drop t
  free_all t [] (v ∷ vs) typed bs E = absurd typed
  free_all t (τ ∷ τs) [] typed bs E = absurd typed
  free_all t (τ ∷ τs) (v ∷ vs) typed bs E = step (λ s. split t $ split t $ forget t 0 refl $ free1 t $ free_all t τs vs typed.1 bs.1 E $ s)

  module _ {i k : Item 𝓤} {q : Share} {τ : Ty} {b o : ℕ} {v : Val} {back : Val → Item 𝓤} where
    -- what an entry has within it, a pair with it has too
    pub in_fst : K → Part K 𝓛 i q τ b o v back → Part K 𝓛 (i ⊛ k) q τ b o v (λ u. back u ⊛ k)
    in_fst t p = record {
      out =
          qed 𝓛 (i ∷ k ∷ []) ∵ use1 𝓛 (‵ (fat q τ b o v) ⊛ raw (Way 𝓛 q τ b o back)) p.out $ split ! $ frame ! $
          each ! (λ (u : Val). wand 𝓤 (H.at q τ b o u) (mean 𝓛 (back u ⊛ k))) (λ u. assume ! (‵ (fat q τ b o u)) $ move ! (1 ∷ []) $
          use1 𝓛 (raw (wand 𝓤 (H.at q τ b o u) (mean 𝓛 (back u)))) (all_e 𝓤 (λ (w : Val). wand 𝓤 (H.at q τ b o w) (mean 𝓛 (back w))) u) $ move ! (1 ∷ 0 ∷ []) $
          use2 𝓛 (back u) (apply∗ 𝓤 (H.at q τ b o u) (mean 𝓛 (back u))) $ done !);
      same = ap (λ (x : Item 𝓤). x ⊛ k) p.same;
    }

    pub in_snd : K → Part K 𝓛 i q τ b o v back → Part K 𝓛 (k ⊛ i) q τ b o v (λ u. k ⊛ back u)
    in_snd t p = record {
      out =
          qed 𝓛 (k ∷ i ∷ []) ∵ move ! (1 ∷ []) $ use1 𝓛 (‵ (fat q τ b o v) ⊛ raw (Way 𝓛 q τ b o back)) p.out $ split ! $ frame ! $
          each ! (λ (u : Val). wand 𝓤 (H.at q τ b o u) (mean 𝓛 (k ⊛ back u))) (λ u. assume ! (‵ (fat q τ b o u)) $ move ! (1 ∷ []) $
          use1 𝓛 (raw (wand 𝓤 (H.at q τ b o u) (mean 𝓛 (back u)))) (all_e 𝓤 (λ (w : Val). wand 𝓤 (H.at q τ b o w) (mean 𝓛 (back w))) u) $ move ! (1 ∷ 0 ∷ []) $
          use2 𝓛 (back u) (apply∗ 𝓤 (H.at q τ b o u) (mean 𝓛 (back u))) $ move ! (1 ∷ 0 ∷ []) $ done !);
      same = ap (λ (x : Item 𝓤). k ⊛ x) p.same;
    }

  -- the first of them, and one of those that follow it
  pub first_cell : K → {τ : Ty} {b : ℕ} {v : Val} {d k : Item 𝓤} → Part K 𝓛 ((‵ (fat full_share τ b zero v) ⊛ d) ⊛ k) full_share τ b zero v (λ u. (‵ (fat full_share τ b zero u) ⊛ d) ⊛ k)
  first_cell t = in_fst t (in_fst t (whole t))

  module _ {Γ : List (Item 𝓤)} {E : Env 𝓤 H} where
    -- a place in a local that stands at the spot s
    pub at_local : K → {i : ℕ} {st : List PStep} {s s' : Spot 𝓤 H} → spot_of 𝓤 H E i ≡ s → Walks K 𝓛 Γ E s st s' → Finds K 𝓛 Γ E (place i st) s'
    at_local t {i} {st} {s} {s'} e w = from t (subst (λ (z : Spot 𝓤 H). Walks K 𝓛 Γ E z st s') (sym e) w)

    -- what a pair's parts show, the pair does
    apart : K → {X i k : Item 𝓤} {xs : List Operand} {vs : List Val} → Opds K 𝓛 (i ∷ k ∷ X ∷ Γ) E xs vs → Opds K 𝓛 (X ∷ (i ⊛ k) ∷ Γ) E xs vs
    apart t {X} {i} {k} os = record {
      go = λ Kt h.
          via 𝓤 (⋆ 𝓛 (i ∷ k ∷ X ∷ Γ)) (qed 𝓛 (X ∷ (i ⊛ k) ∷ Γ) ∵ move ! (1 ∷ []) $ split ! $ done !)
          (os.go Kt (via 𝓤 (⋆ 𝓛 (X ∷ (i ⊛ k) ∷ Γ)) (qed 𝓛 (i ∷ k ∷ X ∷ Γ) ∵ join ! $ move ! (1 ∷ []) $ done !) h));
    }

  pub reads_all : K → (τs : List Ty) (vs : List Val) → Typed τs vs → (bs : Places τs) (E E' : Env 𝓤 H) (k : ℕ) → ((m : ℕ) → spot_of 𝓤 H E (past k m) ≡ spot_of 𝓤 H (placed τs bs E') m)
      → (X : Item 𝓤) (Γ : List (Item 𝓤)) → Opds K 𝓛 (X ∷ cells τs bs vs ∷ Γ) E (copies τs k) vs
  reads_all t [] [] typed bs E E' k at X Γ = no_more t
  reads_all t [] (v ∷ vs) typed bs E E' k at X Γ = absurd typed
  reads_all t (τ ∷ τs) [] typed bs E E' k at X Γ = absurd typed
  reads_all t (τ ∷ τs) (v ∷ vs) typed bs E E' k at X Γ =
      and_then t (load t (at_local t (at 0) (stop t)) (look_in t 1 (first_cell t))) (apart t (reads_all t τs vs typed.1 bs.1 E E' (suc k) (λ m. at (suc m)) _ (X ∷ Γ)))
