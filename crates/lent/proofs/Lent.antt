-- The one walk of the exports over a lent struct: the borrow is opened, the struct is copied and passed with the other parameters
-- to a function, of which the walk knows only what its contract promises, and the struct of its answer is stored behind the borrow,
-- which is closed there. What the other parameters own is passed on, and what the function says of their last values is handed back.
-- No field of the struct is named: its machine value is `LL.val` of it, whatever it holds.
use mathlib.Core.Path.{◌≡◌, refl, ap, subst}
use Prim.Native.Nat.{ℕ, zero, suc, ◌+◌, ◌<◌, ◌^◌}
use mathlib.Core.Option.{some as just}
use mathlib.Core.List.{[], ◌∷◌, List}
use lib.Dec.{T, eqb_refl}
use lib.ListN.{length}
use seplogic.Ra.Ura.{Ura}
use base.Fraction.{full_share}
use mir.Syntax.{Callee, Width, w8, Ty, ty_int, ty_ref, ty_unit, named, imm, mut, Step as PStep, deref, field, place, Opd as Operand, copy, opd_unit, Rv as RValue, rv_opd, aggregate, Body, seq, assign, call, return, local, value_local, Fn}
use mir.Val.{Val, Vals, bytes, vunit, vint, vptr, vstruct, of_list, has_ty, WT}
use mir.Fields.{get_v}
use base.Logic.{SProp, ent, sep, emp, via, id⊢, emp∗, comm∗, mono_r, fst∗}
use base.Fml.{Fml, GName, Lft, Share, ftrue, fsep, flft, fobs, fauth, fbor, fobor, fat, froom}
use prog.Memory.{field_of}
use prog.Model.{Model}
use prog.Routine.{Routine, Env as Routines}
use prog.Wp.{Env, spot_of, Calls, Loops, WpFn, Tables, Closed}
use types.Logic.{Logic, sem}
use contract.Monad.{fact}
use contract.Lifetimes.{Lfts, Shares, toks}
use contract.Running.{Running, tables, tables_of}
use types.Kit.{Item, ‵, raw, ◌⊛◌, some, later, mean, nth, Post, runs, Seq, Step, step, Go, ◌$◌, ◌∵◌, !, qed, by, move, drop, use0, use1, split, join, pick, rewrite, await, fsplit, fsplit3, fjoin, fjoin3, feq_i, suffices, frame, done}
use types.Run.{Walks, Reads, Opd, Opds, Rv, look, look_raw, init, store_raw, forget, stop, hop, fld, from, load, unit_lit, of_opd, and_then, no_more, assigns, land, returns, enter, alloc1, alloc0, params1, pass1, free1, free0}
use types.Part.{Part, agg, whole, sub, look_in}
use types.SemTy.{Body as LentBody}
use sound.WpLaws.{FmC, fm_of, WpFn-mono}
use denote.RattleType.{RattleType, Denots, Valss, flat, owns}
use denote.Laws.{Is, Ises, Are, Spells, Tells, Tellss, Typed, shows, valss}
use denote.Memory.{mem, cell_at, pointee}
use denote.Plain.{UInt, uint_Tells, uint_Makes, Nothing, Nothing-Makes}
use denote.Builtin.{u8}
use denote.Ref.{MutBor, MutRef, mut_vals, mut_Tells}
use denote.Slice.{slice_ty, slice_val, shr_slice_Tells, mut_slice_Tells}
use denote.Signature.{Slot, AllWithin, meet_at, plain, mut_ref_to, mut_slice_of, shr_slice_of, types_at}
use denote.Steps.{opens, closes, owned, peeks, heard, only}
use denote.Struct.Declared.{Declared, fields, shape, row}
use denote.Struct.Struct.{layout, AreAll, Plains}
use denote.Struct.Steps.{spelt}
use denote.Struct.Laws as LL
use denote.Exit.{Kept, yes, left}
use denote.Triple.Entry.{on_entry}
use denote.Triple.End.{Kepts, Fins, lasts_of}
use denote.Triple.Spec.{Meets, triple_of}
use denote.Triple.Statement.{Contract, Triple}
use denote.Triple.Call.{calls_from}
use denote.Triple.Clauses.{Ended, Clauses, at_exit, closing}
use denote.Triple.Table.{entered, cited}
use denote.Triple.Walked.{Stay, Stays, stay_ref, fits_of, has_of, walk_of, AllGo, Goes-ref, on_exit, ends_at, walked, walk_Meets}
use Rattle.lent.proofs.Locals.{Places, locals, placed, after, spot_after, copies, rooms, cells, allocs_all, pass_all, free_all, at_local, reads_all}

-- The struct that is lent: its declaration, its laws, and that its fields are plain
pub record Struct : Type 3 where
  pub type : Declared
  pub laws : LL.Laws type
  pub plains : Plains (fields type)

-- its values; their type in memory; and the machine value of one
abbrev pub Value : Struct → Type 0
Value S = S.type.D

abbrev pub stored_as : Struct → Ty
stored_as S = layout (shape S.type)

abbrev pub value : (S : Struct) → Value S → Val
value S = LL.val S.type S.laws

-- what one owns; the one that is seen behind a `&mut`; and the borrow
abbrev pub Owned : (S : Struct) → Value S → Fml
Owned S x = (row S.type).own_val x (value S x ∷ [])

abbrev Behind : (S : Struct) → GName → Value S → Fml
Behind S γ x = fobs γ ((row S.type).coded.code x)

abbrev Lends : Struct → ℕ → ℕ → GName → Fml
Lends S b o γ = LentBody (mem (row S.type)) b o γ

abbrev Borrow : Struct → Lft → ℕ → ℕ → GName → Fml
Borrow S κ b o γ = fbor κ (Lends S b o γ)

-- a local that holds a value
abbrev pub Holds : Ty → ℕ → Val → Fml
Holds τ l v = fat full_share τ l zero v

-- the machine values of a struct's fields, and what whoever holds the struct knows of them
abbrev pub parts : (R : Declared) (L : LL.Laws R) → R.D → Vals
parts R L r = of_list (flat (fields R) (valss (fields R) (LL.spells R.parts L) (R.to r)))

abbrev pub Known : (R : Declared) (L : LL.Laws R) → R.D → Type 0
Known R L r = AreAll (fields R) (R.to r) (valss (fields R) (LL.spells R.parts L) (R.to r))

-- an answer whose field k is the struct
pub record Carries (S : Struct) (R : Declared) (L : LL.Laws R) (k : ℕ) : Type 0 where
  pub struct : R.D → Value S
  pub offset : ℕ
  pub found : field_of (layout (shape R)) k ≡ just (stored_as S, offset)
  pub held : (r : R.D) → get_v (parts R L r) k ≡ value S (struct r)
  pub owns : (r : R.D) → Known R L r → Is (row S.type) (struct r) (value S (struct r) ∷ [])

-- the place of the struct in an answer: a field, or the whole
pub data Within (S : Struct) : (R : Declared) → LL.Laws R → Type 3 where
  in_field : {R : Declared} {L : LL.Laws R} (k : ℕ) → Carries S R L k → Within S R L
  itself : Within S S.type S.laws

abbrev pub path : {S : Struct} {R : Declared} {L : LL.Laws R} → Within S R L → List PStep
path (in_field k c) = field k ∷ []
path itself = []

abbrev pub struct_of : {S : Struct} {R : Declared} {L : LL.Laws R} → Within S R L → R.D → Value S
struct_of (in_field k c) r = c.struct r
struct_of itself r = r

abbrev offset_of : {S : Struct} {R : Declared} {L : LL.Laws R} → Within S R L → ℕ
offset_of (in_field k c) = c.offset
offset_of itself = 0

is_struct : {S : Struct} {R : Declared} {L : LL.Laws R} (c : Within S R L) (r : R.D) → Known R L r
    → Is (row S.type) (struct_of c r) (value S (struct_of c r) ∷ [])
is_struct (in_field k c) r known = c.owns r known
is_struct {S} itself r known = LL.owes S.type S.laws r known

-- The other parameters

-- one that is passed on: its slot, the type of its local, and its one machine value
pub record Passed (n : ℕ) : Type 2 where
  pub slot : Slot n
  pub ty : Ty
  pub val : (κs : Lfts n) → (slot.row κs).Denot → Val
  pub tells : (κs : Lfts n) → Tells (slot.row κs) (Is (slot.row κs)) (λ x. val κs x ∷ [])
  pub typed : (κs : Lfts n) (x : (slot.row κs).Denot) → Is (slot.row κs) x (val κs x ∷ []) → T (has_ty ty (val κs x)) × WT (val κs x)

abbrev slots : {n : ℕ} → List (Passed n) → List (Slot n)
slots [] = []
slots (p ∷ ps) = p.slot ∷ slots ps

abbrev tys : {n : ℕ} → List (Passed n) → List Ty
tys [] = []
tys (p ∷ ps) = p.ty ∷ tys ps

-- every last value is spoken of
abbrev kepts : {n : ℕ} (ps : List (Passed n)) → Kepts (slots ps)
kepts [] = tt
kepts (p ∷ ps) = (yes, kepts ps)

module _ {n : ℕ} (κs : Lfts n) where
  abbrev pub Others : List (Passed n) → Type 0
  Others ps = Denots (types_at (slots ps) κs)

  abbrev pub Finals : (ps : List (Passed n)) → Others ps → Type 0
  Finals ps = Fins κs (slots ps) (kepts ps)

  abbrev spells : (ps : List (Passed n)) → Spells (types_at (slots ps) κs)
  spells [] = tt
  spells (p ∷ ps) = ((λ x. p.val κs x ∷ []), spells ps)

  -- their machine values, by parameter and in a row
  abbrev pub values : (ps : List (Passed n)) → Others ps → Valss (types_at (slots ps) κs)
  values ps a = valss (types_at (slots ps) κs) (spells ps) a

  abbrev pub vals : (ps : List (Passed n)) → Others ps → List Val
  vals ps a = flat (types_at (slots ps) κs) (values ps a)

  all_tell : (ps : List (Passed n)) → Tellss (types_at (slots ps) κs) (Ises (types_at (slots ps) κs)) (spells ps)
  all_tell [] = tt
  all_tell (p ∷ ps) = (p.tells κs, all_tell ps)

  all_typed : (ps : List (Passed n)) (a : Others ps) → Are (types_at (slots ps) κs) (Ises (types_at (slots ps) κs)) a (values ps a) → Typed (tys ps) (vals ps a)
  all_typed [] a are = tt
  all_typed (p ∷ ps) a are = (p.typed κs a.0 are.0, all_typed ps a.1 are.1)

-- an export's signature: a lent struct, the parameters that are passed on, and a result
abbrev pub lending : (S : Struct) (n : ℕ) → List (Passed (suc n)) → RattleType → Ended
lending S n ps P = record {
  signature = record { lifetimes = suc n; outlives = []; params = mut_ref_to (0 ∷ []) tt (plain (λ _. row S.type)) ∷ slots ps; result = plain (λ _. P) };
  kept = (yes, kepts ps);
}

-- of a parameter that is passed on, what is said of its last value
abbrev stay_said : {n : ℕ} (s : Slot n) (k : Kept) → Stay s k
stay_said s k = record { fit = λ κs x f. Unit {0}; has = λ κs x f vs. left ((s.row κs).exit k) x f }

abbrev all_said : {n : ℕ} (ss : List (Slot n)) (ks : Kepts ss) → Stays ss ks
all_said [] ks = tt
all_said (s ∷ ss) ks = (stay_said s ks.0, all_said ss ks.1)

fits_said : {n : ℕ} (κs : Lfts n) (ss : List (Slot n)) (ks : Kepts ss) (a : Denots (types_at ss κs)) (ws : Fins κs ss ks a) → fits_of κs ss ks (all_said ss ks) a ws
fits_said κs [] ks a ws = tt
fits_said κs (s ∷ ss) ks a ws = (tt, fits_said κs ss ks.1 a.1 ws.1)

module _ {M : Type 1} {𝓤 : Ura M} (𝓛 : Logic 𝓤) (n : ℕ) where
  has_said : (κs : Lfts n) (ss : List (Slot n)) (ks : Kepts ss) (a : Denots (types_at ss κs)) (ws : Fins κs ss ks a) (vss : Valss (types_at ss κs))
      → ent 𝓤 (sem 𝓛 (lasts_of κs ss ks a ws)) (sem 𝓛 (has_of κs ss ks (all_said ss ks) a ws vss))
  has_said κs [] ks a ws vss = id⊢ 𝓤 _
  has_said κs (s ∷ ss) ks a ws vss = mono_r 𝓤 (sem 𝓛 (left ((s.row κs).exit ks.0) a.0 ws.0)) (has_said κs ss ks.1 a.1 ws.1 vss.1)

  go_said : (ss : List (Slot n)) (ks : Kepts ss) → AllGo 𝓛 n ss ks (all_said ss ks)
  go_said [] ks = tt
  go_said (s ∷ ss) ks = ((λ κs x f vs ok. 𝓛.laws.⇛_intro _), go_said ss ks.1)

-- the parameters that exports pass on: a number, a slice that is read, and one that is altered
abbrev pub number : {n : ℕ} → Width → Passed n
number w = record {
  slot = plain (λ _. UInt w);
  ty = ty_int w;
  val = λ κs x. vint w x;
  tells = λ κs. uint_Tells w;
  typed = λ κs x is. (eqb_refl (bytes w), record { fits = is.1 });
}

abbrev pub read_slice : {n : ℕ} (j : ℕ) → AllWithin n (j ∷ []) → Width → Passed n
read_slice {n} j ok w = record {
  slot = shr_slice_of (j ∷ []) ok (plain (λ _. UInt w));
  ty = slice_ty (ty_ref (named j) imm (ty_int w));
  val = λ κs x. slice_val x.ref_ptr (length x.now);
  tells = λ κs. shr_slice_Tells (named j) (meet_at n (j ∷ []) ok κs) (UInt w);
  typed = λ κs x is. (tt, (tt, (record { fits = is.0.1.0 }, tt)));
}

abbrev pub altered_slice : {n : ℕ} (j : ℕ) → AllWithin n (j ∷ []) → Width → Passed n
altered_slice {n} j ok w = record {
  slot = mut_slice_of (j ∷ []) ok (plain (λ _. UInt w));
  ty = slice_ty (ty_ref (named j) mut (ty_int w));
  val = λ κs x. slice_val x.ref_ptr (length x.now);
  tells = λ κs. mut_slice_Tells (named j) (meet_at n (j ∷ []) ok κs) (UInt w);
  typed = λ κs x is. (tt, (tt, (record { fits = is.0.1.0 }, tt)));
}

-- The result

-- what an export makes of the answer, which stands in the local i
pub record Result (R : Declared) (L : LL.Laws R) : Type 3 where
  pub P : RattleType
  pub ty : Ty
  pub value : ℕ → RValue
  pub res : R.D → P.Denot
  pub val : R.D → Val
  pub typed : (r : R.D) → Known R L r → T (has_ty ty (val r)) × WT (val r)
  pub makes : {M : Type 1} {𝓤 : Ura M} (𝓛 : Logic 𝓤) (r : R.D) → Known R L r → ent 𝓤 (emp 𝓤) (sem 𝓛 (P.own_val (res r) (val r ∷ [])))
  pub evals : {M : Type 1} {𝓤 : Ura M} (𝓛 : Logic 𝓤) (E : Env 𝓤 𝓛.H) (i l : ℕ) → spot_of 𝓤 𝓛.H E i ≡ (layout (shape R), l, zero) → (r : R.D) (Γ : List (Item 𝓤))
      → Rv (Go {0}) 𝓛 (‵ (Holds (layout (shape R)) l (vstruct (parts R L r))) ∷ Γ) E (value i) (val r)

-- a part of an answer, in its field k: a number or a struct, and what whoever holds the answer knows of it
pub record Piece (R : Declared) (L : LL.Laws R) (k : ℕ) : Type 1 where
  pub ty : Ty
  pub val : R.D → Val
  pub offset : ℕ
  pub found : field_of (layout (shape R)) k ≡ just (ty, offset)
  pub held : (r : R.D) → get_v (parts R L r) k ≡ val r
  pub Fits : R.D → Type 0
  pub fits : (r : R.D) → Known R L r → Fits r

module _ {R : Declared} {L : LL.Laws R} {k : ℕ} (c : Piece R L k) {M : Type 1} {𝓤 : Ura M} (𝓛 : Logic 𝓤) (E : Env 𝓤 𝓛.H) (i l : ℕ) (e : spot_of 𝓤 𝓛.H E i ≡ (layout (shape R), l, zero)) (r : R.D) (Γ : List (Item 𝓤)) where
  pub piece_of : Opd (Go {0}) 𝓛 (‵ (Holds (layout (shape R)) l (vstruct (parts R L r))) ∷ Γ) E (copy (place i (field k ∷ []))) (c.val r)
  piece_of =
      load ! (at_local ! e (fld ! c.found (stop !)))
      (subst (λ (u : Val). Reads (Go {0}) 𝓛 (‵ (Holds (layout (shape R)) l (vstruct (parts R L r))) ∷ Γ) c.ty l (zero + c.offset) u) (c.held r) (look_in ! 0 (sub ! k c.found (whole !))))

-- a byte
pub record Byte (R : Declared) (L : LL.Laws R) (k : ℕ) : Type 0 where
  pub byte : R.D → ℕ
  pub offset : ℕ
  pub found : field_of (layout (shape R)) k ≡ just (ty_int w8, offset)
  pub held : (r : R.D) → get_v (parts R L r) k ≡ vint w8 (byte r)
  pub fits : (r : R.D) → Known R L r → byte r < 2 ^ 8

abbrev pub of_byte : {R : Declared} {L : LL.Laws R} {k : ℕ} → Byte R L k → Piece R L k
of_byte c = record { ty = ty_int w8; val = λ r. vint w8 (c.byte r); offset = c.offset; found = c.found; held = c.held; Fits = λ r. c.byte r < 2 ^ 8; fits = c.fits }

-- the byte alone
abbrev pub one_byte : {R : Declared} {L : LL.Laws R} (k : ℕ) → Byte R L k → Result R L
one_byte k c = record {
  P = u8;
  ty = ty_int w8;
  value = λ i. rv_opd (copy (place i (field k ∷ [])));
  res = c.byte;
  val = λ r. vint w8 (c.byte r);
  typed = λ r known. (tt, record { fits = c.fits r known });
  makes = λ 𝓛 r known. uint_Makes 𝓛 w8 (c.byte r) _ (refl, c.fits r known);
  evals = λ 𝓛 E i l e r Γ. of_opd ! (piece_of (of_byte c) 𝓛 E i l e r Γ);
}

-- some parts, those of the fields ks, as a struct
pub data Some (R : Declared) (L : LL.Laws R) : List ℕ → Type 3 where
  none : Some R L []
  ◌with◌ : {k : ℕ} {ks : List ℕ} → Piece R L k → Some R L ks → Some R L (k ∷ ks)

infixr 5 ◌with◌
abbrev pub ◌and◌ : {R : Declared} {L : LL.Laws R} {k : ℕ} {ks : List ℕ} → Byte R L k → Some R L ks → Some R L (k ∷ ks)
c and cs = of_byte c with cs

infixr 5 ◌and◌
abbrev pub AllFit : {R : Declared} {L : LL.Laws R} {ks : List ℕ} → Some R L ks → R.D → Type 0
AllFit none r = Unit {0}
AllFit (c with cs) r = c.Fits r × AllFit cs r

pub all_fit : {R : Declared} {L : LL.Laws R} {ks : List ℕ} (cs : Some R L ks) (r : R.D) → Known R L r → AllFit cs r
all_fit none r known = tt
all_fit (c with cs) r known = (c.fits r known, all_fit cs r known)

abbrev piece_vals : {R : Declared} {L : LL.Laws R} {ks : List ℕ} → Some R L ks → R.D → List Val
piece_vals none r = []
piece_vals (c with cs) r = c.val r ∷ piece_vals cs r

abbrev pub pieces_val : {R : Declared} {L : LL.Laws R} {ks : List ℕ} → Some R L ks → R.D → Val
pieces_val cs r = vstruct (of_list (piece_vals cs r))

abbrev fields_at : ℕ → List ℕ → List Operand
fields_at i [] = []
fields_at i (k ∷ ks) = copy (place i (field k ∷ [])) ∷ fields_at i ks

module _ {R : Declared} {L : LL.Laws R} {M : Type 1} {𝓤 : Ura M} (𝓛 : Logic 𝓤) (E : Env 𝓤 𝓛.H) (i l : ℕ) (e : spot_of 𝓤 𝓛.H E i ≡ (layout (shape R), l, zero)) (r : R.D) (Γ : List (Item 𝓤)) where
  pub all_pieces : {ks : List ℕ} (cs : Some R L ks) → Opds (Go {0}) 𝓛 (‵ (Holds (layout (shape R)) l (vstruct (parts R L r))) ∷ Γ) E (fields_at i ks) (piece_vals cs r)
  all_pieces none = no_more !
  all_pieces (c with cs) = and_then ! (piece_of c 𝓛 E i l e r Γ) (all_pieces cs)

-- the struct N that they make
pub record Pieces {R : Declared} {L : LL.Laws R} {ks : List ℕ} (cs : Some R L ks) (N : Declared) : Type 2 where
  pub make : R.D → N.D
  pub plains : Plains (fields N)
  pub typed : (r : R.D) → AllFit cs r → T (has_ty (layout (shape N)) (pieces_val cs r)) × WT (pieces_val cs r)
  pub is : (r : R.D) → AllFit cs r → Is (row N) (make r) (pieces_val cs r ∷ [])

abbrev pub some_pieces : {R : Declared} {L : LL.Laws R} {ks : List ℕ} (cs : Some R L ks) (N : Declared) → Pieces cs N → Result R L
some_pieces {ks = ks} cs N b = record {
  P = row N;
  ty = layout (shape N);
  value = λ i. aggregate (fields_at i ks);
  res = b.make;
  val = λ r. pieces_val cs r;
  typed = λ r known. b.typed r (all_fit cs r known);
  makes = λ 𝓛 r known. LL.makes N b.plains 𝓛 _ _ (b.is r (all_fit cs r known));
  evals = λ 𝓛 E i l e r Γ. agg ! (all_pieces 𝓛 E i l e r Γ cs);
}

-- none
abbrev pub no_result : {R : Declared} {L : LL.Laws R} → Result R L
no_result = record {
  P = Nothing;
  ty = ty_unit;
  value = λ i. rv_opd opd_unit;
  res = λ r. tt;
  val = λ r. vunit;
  typed = λ r known. (tt, tt);
  makes = λ 𝓛 r known. Nothing-Makes 𝓛 tt _ refl;
  evals = λ 𝓛 E i l e r Γ. of_opd ! (unit_lit !);
}

-- The call

-- where the locals past `_1` stand: the parameters, the answer, the struct's copy, and what more there is
pub record Stand (τs es : List Ty) : Type 0 where
  pub params : Places τs
  pub answer : ℕ
  pub copied : ℕ
  pub more : Places es

abbrev pub standing : (S : Struct) {τs : List Ty} (τ : Ty) (es : List Ty) → Stand τs es → List (Ty × ℕ)
standing S {τs} τ es s = placed τs s.params ((τ, s.answer) ∷ (stored_as S, s.copied) ∷ placed es s.more [])

-- how the other parameters go to the function whose answer is a τ: what is done before it is called, which puts the values `made`
-- into further locals; and the operands, which give the values `given`
pub record Way (S : Struct) {n : ℕ} (ps : List (Passed n)) (τ : Ty) : Type 3 where
  pub more : List Ty
  pub before : Body → Body
  pub args : List Operand
  pub made : (κs : Lfts n) → Others κs ps → List Val
  pub made_typed : (κs : Lfts n) (a : Others κs ps) → Typed (tys ps) (vals κs ps a) → Typed more (made κs a)
  pub makes : {M : Type 1} {𝓤 : Ura M} (𝓛 : Logic 𝓤) (C : Calls 𝓤 𝓛.H) (Λ : Loops 𝓤 𝓛.H) (κs : Lfts n) (a : Others κs ps) → Typed (tys ps) (vals κs ps a)
      → (e₀ e₁ : Ty × ℕ) (s : Stand (tys ps) more) (rest : Body) (q : Post 𝓤 𝓛.H) (Γ : List (Item 𝓤))
      → Step (Go {0}) 𝓛 (cells (tys ps) s.params (vals κs ps a) ∷ cells more s.more (made κs a) ∷ Γ) (runs C Λ (e₀ ∷ e₁ ∷ standing S τ more s) rest q)
      (cells (tys ps) s.params (vals κs ps a) ∷ rooms more s.more ∷ Γ) (runs C Λ (e₀ ∷ e₁ ∷ standing S τ more s) (before rest) q)
  pub given : (κs : Lfts n) → Others κs ps → List Val
  pub reads : {M : Type 1} {𝓤 : Ura M} (𝓛 : Logic 𝓤) (κs : Lfts n) (a : Others κs ps) → Typed (tys ps) (vals κs ps a)
      → (e₀ e₁ : Ty × ℕ) (s : Stand (tys ps) more) (X : Item 𝓤) (Γ : List (Item 𝓤))
      → Opds (Go {0}) 𝓛 (X ∷ cells (tys ps) s.params (vals κs ps a) ∷ cells more s.more (made κs a) ∷ Γ) (e₀ ∷ e₁ ∷ standing S τ more s) args (given κs a)

-- in order, and nothing is done before
abbrev pub in_order : {S : Struct} {n : ℕ} (ps : List (Passed n)) (τ : Ty) → Way S ps τ
in_order {S} ps τ = record {
  more = [];
  before = λ rest. rest;
  args = copies (tys ps) 2;
  made = λ κs a. [];
  made_typed = λ κs a typed. tt;
  makes = λ 𝓛 C Λ κs a typed e₀ e₁ s rest q Γ. step (λ z. z);
  given = λ κs a. vals κs ps a;
  reads = λ 𝓛 κs a typed e₀ e₁ s X Γ. reads_all ! (tys ps) (vals κs ps a) typed s.params (e₀ ∷ e₁ ∷ standing S τ [] s) ((τ, s.answer) ∷ (stored_as S, s.copied) ∷ placed [] s.more []) 2 (λ m. refl) X (cells [] s.more [] ∷ Γ);
}

module _ {M : Type 1} {𝓤 : Ura M} {𝓛 : Logic 𝓤} {K : Type 0} {Γ : List (Item 𝓤)} where
  -- the struct of an answer
  open 𝓛 use {H}

  walks_to : K → {E : Env 𝓤 H} {S : Struct} {R : Declared} {L : LL.Laws R} (c : Within S R L) {l : ℕ} → Walks K 𝓛 Γ E (layout (shape R), l, zero) (path c) (stored_as S, l, zero + offset_of c)
  walks_to t (in_field k c) = fld t c.found (stop t)
  walks_to t itself = stop t

  struct_in : K → {S : Struct} {R : Declared} {L : LL.Laws R} (c : Within S R L) {l : ℕ} (r : R.D) (n : ℕ) {back : Val → Item 𝓤} → Part K 𝓛 (nth 𝓛 n Γ) full_share (layout (shape R)) l zero (vstruct (parts R L r)) back
      → Reads K 𝓛 Γ (stored_as S) l (zero + offset_of c) (value S (struct_of c r))
  struct_in t {S} {R} {L} (in_field k c) {l} r n p = subst (λ (u : Val). Reads K 𝓛 Γ (stored_as S) l (zero + c.offset) u) (c.held r) (look_in t n (sub t k c.found p))
  struct_in t itself r n p = look_in t n p

-- a function that is called: what it is handed at the values vs, and what it gives
pub record Called {M : Type 1} {𝓤 : Ura M} (𝓛 : Logic 𝓤) (C : Calls 𝓤 𝓛.H) (f : Callee) (vs : List Val) (X : Item 𝓤) (R : Declared) (B : Item 𝓤) (Says : R.D → Item 𝓤) : Type 2 where
  pub post : Val → SProp 𝓤
  pub met : ent 𝓤 (mean 𝓛 X) (C f vs post)
  pub gives : (v : Val) → ent 𝓤 (post v) (mean 𝓛 (later (some (λ (r : R.D). (B ⊛ ‵ ((row R).own_val r (v ∷ []))) ⊛ Says r))))

module _ {M : Type 1} {𝓤 : Ura M} {𝓛 : Logic 𝓤} {K : Type 0} {Γ : List (Item 𝓤)} {E : Env 𝓤 𝓛.H} {C : Calls 𝓤 𝓛.H} {Λ : Loops 𝓤 𝓛.H} {q : Post 𝓤 𝓛.H}
    {κ : Lft} {s : Share} {b o : ℕ} {γ : GName} {τ : Ty} {l₁ : ℕ} {rest : Body} where
  -- the borrow is opened, and `*_1` is copied to the local j
  open 𝓛 use {H}

  takes_out : K → (S : Struct) {j l₃ : ℕ} → spot_of 𝓤 H E 1 ≡ (τ, l₁, zero) → spot_of 𝓤 H E j ≡ (stored_as S, l₃, zero) → (h : Value S)
      → Seq K 𝓛 (‵ (Owned S h) ∷ ‵ (cell_at full_share (row S.type).mir (value S h ∷ []) b o) ∷ ‵ (fobor κ s (Lends S b o γ)) ∷ ‵ (Behind S γ h) ∷ ‵ (fauth γ ((row S.type).coded.code h)) ∷ ‵ (Holds τ l₁ (vptr b o)) ∷ ‵ (Holds (stored_as S) l₃ (value S h)) ∷ Γ) (runs C Λ E rest q)
      → Seq K 𝓛 (‵ (Behind S γ h) ∷ ‵ (Borrow S κ b o γ) ∷ ‵ (flft κ s) ∷ ‵ (Holds τ l₁ (vptr b o)) ∷ ‵ (froom (stored_as S) l₃ zero) ∷ Γ)
      (runs C Λ E (seq (assign (place j []) (rv_opd (copy (place 1 (deref (stored_as S) ∷ []))))) rest) q)
  takes_out t S e₁ e₃ h go =
      opens t tt (row S.type) {h = h} b o (λ vs. spelt t (row S.type) (Is (row S.type)) (shows 𝓛 (row S.type)) (LL.vals S.type S.laws) (LL.tells S.type S.laws) full_share h vs b o $
      move t (1 ∷ []) $ peeks t (row S.type) (Is (row S.type)) (shows 𝓛 (row S.type)) h (value S h ∷ []) (λ is.
      assigns t (of_opd t (load t (at_local t e₁ (hop t (look t 5 refl) (stop t))) (look_raw t 1 refl))) (at_local t e₃ (stop t)) (init t 6 refl ((LL.lawful S.type S.laws 𝓛).typed h _ is).0) $
      go))

  -- the function is called, its answer stands in the local i, and its struct goes behind the borrow, which is closed
  puts_back : K → {S : Struct} {i j l₂ l₃ : ℕ} {R : Declared} {L : LL.Laws R} (c : Within S R L) {X Y Z B : Item 𝓤} {Says : R.D → Item 𝓤} {f : Callee} {xs : List Operand} {vs : List Val} → FmC 𝓤 H 𝓛.laws C
      → spot_of 𝓤 H E 1 ≡ (τ, l₁, zero) → spot_of 𝓤 H E i ≡ (layout (shape R), l₂, zero) → spot_of 𝓤 H E j ≡ (stored_as S, l₃, zero)
      → (h : Value S) → Called 𝓛 C f (value S h ∷ vs) X R B Says
      → Opds K 𝓛 (X ∷ Y ∷ Z ∷ ‵ (cell_at full_share (row S.type).mir (value S h ∷ []) b o) ∷ ‵ (fobor κ s (Lends S b o γ)) ∷ ‵ (Behind S γ h) ∷ ‵ (fauth γ ((row S.type).coded.code h)) ∷ ‵ (Holds τ l₁ (vptr b o)) ∷ ‵ (Holds (stored_as S) l₃ (value S h)) ∷ ‵ (froom (layout (shape R)) l₂ zero) ∷ Γ) E xs vs
      → ((r : R.D) → Known R L r → Seq K 𝓛 (‵ (Behind S γ (struct_of c r)) ∷ ‵ (Borrow S κ b o γ) ∷ ‵ (flft κ s) ∷ B ∷ Says r ∷ Y ∷ Z ∷ ‵ (Holds τ l₁ (vptr b o)) ∷ ‵ (Holds (stored_as S) l₃ (value S h)) ∷ ‵ (Holds (layout (shape R)) l₂ (vstruct (parts R L r))) ∷ Γ) (runs C Λ E rest q))
      → Seq K 𝓛 (X ∷ Y ∷ Z ∷ ‵ (cell_at full_share (row S.type).mir (value S h ∷ []) b o) ∷ ‵ (fobor κ s (Lends S b o γ)) ∷ ‵ (Behind S γ h) ∷ ‵ (fauth γ ((row S.type).coded.code h)) ∷ ‵ (Holds τ l₁ (vptr b o)) ∷ ‵ (Holds (stored_as S) l₃ (value S h)) ∷ ‵ (froom (layout (shape R)) l₂ zero) ∷ Γ)
      (runs C Λ E (seq (call f (copy (place j []) ∷ xs) (place i [])) (seq (assign (place 1 (deref (stored_as S) ∷ [])) (rv_opd (copy (place i (path c))))) rest)) q)
  puts_back t {S = S} {l₂ = l₂} {R = R} {L = L} c {X = X} {B = B} {Says = Says} {vs = vs} fm e₁ e₂ e₃ h called args go =
      calls_from t fm X (value S h ∷ vs) called.post called.met (and_then t (load t (at_local t e₃ (stop t)) (look t 8 refl)) args) (λ v.
      use1 𝓛 (later (some (λ (r : R.D). (B ⊛ ‵ ((row R).own_val r (v ∷ []))) ⊛ Says r))) (called.gives v) $ await t tt $ pick t (λ r. split t $ split t $ move t (1 ∷ []) $
      -- [what the answer owns; what comes back; what is said; …]
      peeks t (row R) (Is (row R)) (shows 𝓛 (row R)) r (v ∷ []) (λ ir.
      land t (at_local t e₂ (stop t)) (init t 11 refl ((LL.lawful R L 𝓛).typed r _ ir).0) $ drop t $
      rewrite t 10 (λ (u : Val). ‵ (Holds (layout (shape R)) l₂ u)) (ap only (LL.tells R L r (v ∷ []) ir)) refl $
      let known : Known R L r = LL.owed R L r _ ir in
      assigns t (of_opd t (load t (at_local t e₂ (walks_to t c)) (struct_in t c r 10 (whole t)))) (at_local t e₁ (hop t (look t 8 refl) (stop t)))
      (store_raw t 4 refl ((LL.lawful S.type S.laws 𝓛).typed (struct_of c r) _ (is_struct c r known)).0) $
      owned t (row S.type) (Is (row S.type)) (LL.makes S.type S.plains 𝓛) (struct_of c r) _ (is_struct c r known) $
      move t (5 ∷ 0 ∷ 6 ∷ 7 ∷ 8 ∷ []) $ closes t tt (row S.type) (struct_of c r) (value S (struct_of c r) ∷ []) b o $
      go r known)))

-- a function that asks nothing is handed no more than its parameters
pub asks_nothing : {M : Type 1} (𝓤 : Ura M) (P : SProp 𝓤) → ent 𝓤 P (sep 𝓤 P (emp 𝓤))
asks_nothing 𝓤 P = via 𝓤 (sep 𝓤 (emp 𝓤) P) (emp∗ 𝓤 P) (comm∗ 𝓤 (emp 𝓤) P)

-- The walk

abbrev reference : Struct → Ty
reference S = ty_ref (named 0) mut (pointee (row S.type).written)

module _ {S : Struct} (n : ℕ) (ps : List (Passed (suc n))) {R : Declared} {L : LL.Laws R} (at : Within S R L) (w : Way S ps (layout (shape R))) (y : Result R L) (f : Callee) where
  abbrev answer_at : ℕ
  answer_at = suc (suc (after (tys ps) 0))

  abbrev copy_at : ℕ
  copy_at = suc (suc (after (tys ps) 1))

  abbrev pub function : Fn
  function = record {
    lifetimes = suc n;
    outlives = [];
    ty_params = [];
    givens = 0;
    params = suc (after (tys ps) 0);
    locals = local y.ty value_local ∷ local (reference S) value_local ∷ locals (tys ps) (local (layout (shape R)) value_local ∷ local (stored_as S) value_local ∷ locals w.more []);
    body =
        seq (assign (place copy_at []) (rv_opd (copy (place 1 (deref (stored_as S) ∷ [])))))
        (w.before (seq (call f (copy (place copy_at []) ∷ w.args) (place answer_at []))
        (seq (assign (place 1 (deref (stored_as S) ∷ [])) (rv_opd (copy (place answer_at (path at)))))
        (seq (assign (place 0 []) (y.value answer_at)) return))));
  }

  abbrev pub export : Ended
  export = lending S n ps y.P

  -- what the function's contract d tells of its answer, and that the export's own follows
  module _ {M : Type 1} {𝓤 : Ura M} (𝓛 : Logic 𝓤) (d : Contract 𝓤) (c : Clauses 𝓤 export) where
    pub record Follows : Type 2 where
      pub Told : (κs : Lfts (suc n)) → Value S → (a : Others κs ps) → R.D → Finals κs ps a → Type 0
      pub to : (κs : Lfts (suc n)) → Shares (suc n) → Value S → Others κs ps → d.Ghost
      pub args : (κs : Lfts (suc n)) (qs : Shares (suc n)) (h : Value S) (a : Others κs ps) → d.args (to κs qs h a) ≡ value S h ∷ w.given κs a
      pub asks : (κs : Lfts (suc n)) (qs : Shares (suc n)) (h : Value S) (a : Others κs ps)
          → ent 𝓤 (sep 𝓤 (toks 𝓛 n κs.1 qs.1) (sem 𝓛 (owns (row S.type ∷ types_at (slots ps) κs) (h, a) (value S h ∷ [], values κs ps a)))) (d.pre (to κs qs h a))
      pub gives : (κs : Lfts (suc n)) (qs : Shares (suc n)) (h : Value S) (a : Others κs ps) (v : Val)
          → ent 𝓤 (d.post (to κs qs h a) v) (mean 𝓛 (later (some (λ (r : R.D). (raw (toks 𝓛 n κs.1 qs.1) ⊛ ‵ ((row R).own_val r (v ∷ []))) ⊛
          some (λ (ws : Unit {0} × Finals κs ps a). ‵ (fsep ftrue (lasts_of κs (slots ps) (kepts ps) a ws.1)) ⊛ raw (fact 𝓤 (Told κs h a r ws.1)))))))
      pub shows : (κs : Lfts (suc n)) (x : MutBor (Value S)) (a : Others κs ps) (g : (c κs (x, a)).ghost) (r : R.D) (ws : Finals κs ps a) → Told κs x.now a r ws
          → ent 𝓤 (emp 𝓤) ((c κs (x, a)).ensures g (y.res r) (at_exit export κs (x, a) (struct_of at r, ws)))

module _ {S : Struct} {n : ℕ} {ps : List (Passed (suc n))} {R : Declared} {L : LL.Laws R} (at : Within S R L) (w : Way S ps (layout (shape R))) (y : Result R L) (f : Callee)
    {M : Type 1} {𝓤 : Ura M} (𝓛 : Logic 𝓤) (C : Calls 𝓤 𝓛.H) (Λ : Loops 𝓤 𝓛.H) (d : Contract 𝓤) (known : Triple 𝓤 (C f) d) (c : Clauses 𝓤 (lending S n ps y.P)) (F : Follows n ps at w y f 𝓛 d c) where
  open 𝓛 use {H}

  abbrev T' : Ended
  T' = lending S n ps y.P

  abbrev stayed : Stays T'.signature.params T'.kept
  stayed = (stay_ref (0 ∷ []) tt (plain (λ _. row S.type)), all_said (slots ps) (kepts ps))

  module _ (κs : Lfts (suc n)) (qs : Shares (suc n)) (b o : ℕ) (γ : GName) (h : Value S) (a : Others κs ps) where
    abbrev x : MutBor (Value S)
    x = record { ref_ptr = (b, o); ghost_name = γ; now = h }

    abbrev Tokens : SProp 𝓤
    Tokens = toks 𝓛 n κs.1 qs.1

    abbrev told_of : R.D → Item 𝓤
    told_of r = some (λ (ws : Unit {0} × Finals κs ps a). ‵ (fsep ftrue (lasts_of κs (slots ps) (kepts ps) a ws.1)) ⊛ raw (fact 𝓤 (F.Told κs h a r ws.1)))

    called : Called 𝓛 C f (value S h ∷ w.given κs a) (raw Tokens ⊛ ‵ (owns (row S.type ∷ types_at (slots ps) κs) (h, a) (value S h ∷ [], values κs ps a))) R (raw Tokens) told_of
    called =
        let z : d.Ghost = F.to κs qs h a in
        record {
          post = d.post z;
          met = via 𝓤 (d.pre z) (F.asks κs qs h a) (subst (λ (vs : List Val). ent 𝓤 (d.pre z) (C f vs (d.post z))) (F.args κs qs h a) (known z));
          gives = F.gives κs qs h a;
        }

    module _ (g : (c κs (x, a)).ghost) where
      abbrev bound : (walk_of 𝓛 T' stayed c).Ghost
      bound = ((κs, qs, tt, (x, a), (vptr b o ∷ [], values κs ps a)), g)

      abbrev Post' : Val → SProp 𝓤
      Post' = (walk_of 𝓛 T' stayed c).post bound

      exits : (r : R.D) (ws : Finals κs ps a) → F.Told κs h a r ws → Known R L r
          → ent 𝓤 (sep 𝓤 (sem 𝓛 (lasts_of κs (slots ps) (kepts ps) a ws)) (sep 𝓤 (sem 𝓛 (Behind S γ (struct_of at r))) (sep 𝓤 (sem 𝓛 (Borrow S κs.0 b o γ)) (sep 𝓤 (sem 𝓛 (flft κs.0 qs.0)) Tokens)))) (Post' (y.val r))
      exits r ws told known =
          let e : SProp 𝓤 = (c κs (x, a)).ensures g (y.res r) (at_exit T' κs (x, a) (struct_of at r, ws)) in
          qed 𝓛 (‵ (lasts_of κs (slots ps) (kepts ps) a ws) ∷ ‵ (Behind S γ (struct_of at r)) ∷ ‵ (Borrow S κs.0 b o γ) ∷ ‵ (flft κs.0 qs.0) ∷ raw Tokens ∷ []) ∵
          suffices ! _ (ends_at 𝓛 T' stayed c bound (y.val r) (y.res r) (struct_of at r, ws) (tt, fits_said κs (slots ps) (kepts ps) a ws)) $
          suffices ! _ (comm∗ 𝓤 e (on_exit 𝓛 T' stayed κs qs (vptr b o ∷ [], values κs ps a) (y.val r) (y.res r) (x, a) (struct_of at r, ws))) $
          use0 𝓛 (raw e) (F.shows κs x a g r ws told) $ frame ! $ move ! (3 ∷ 4 ∷ []) $ join ! $ frame ! $
          use1 𝓛 (‵ (has_of κs (slots ps) (kepts ps) (all_said (slots ps) (kepts ps)) a ws (values κs ps a))) (has_said 𝓛 (suc n) κs (slots ps) (kepts ps) a ws (values κs ps a)) $ move ! (1 ∷ 2 ∷ []) $
          feq_i ! (List Val) (vptr b o ∷ []) (vptr b o ∷ []) refl $ fjoin3 ! $ fjoin ! $
          use0 𝓛 (‵ (y.P.own_val (y.res r) (y.val r ∷ []))) (y.makes 𝓛 r known) $ move ! (1 ∷ 0 ∷ []) $ done !

      walk : FmC 𝓤 H 𝓛.laws C → Typed (tys ps) (vals κs ps a)
          → ent 𝓤 (on_entry 𝓛 T'.signature κs qs (x, a) (vptr b o ∷ [], values κs ps a)) (WpFn 𝓤 H C Λ (function n ps at w y f) (vptr b o ∷ vals κs ps a) Post')
      walk fm typed =
          qed 𝓛 ((‵ (flft κs.0 qs.0) ⊛ raw Tokens) ∷ ‵ (owns (MutRef (named 0) κs.0 (row S.type) ∷ types_at (slots ps) κs) (x, a) (vptr b o ∷ [], values κs ps a)) ∷ []) ∵
          split ! $ move ! (2 ∷ []) $ fsplit ! $ fsplit3 ! $ drop ! $ move ! (0 ∷ 1 ∷ 3 ∷ []) $
          -- [obs; the borrow; its token; what the others own; the others' tokens]
          enter ! C Λ (function n ps at w y f) (vptr b o ∷ vals κs ps a) _ $
          alloc1 ! (λ l₀. alloc1 ! (λ l₁. allocs_all ! (tys ps) (λ bs. alloc1 ! (λ l₂. alloc1 ! (λ l₃. allocs_all ! w.more (λ ms. alloc0 ! $ params1 ! $
          let s : Stand (tys ps) w.more = record { params = bs; answer = l₂; copied = l₃; more = ms } in
          let rest : Env 𝓤 H = (layout (shape R), l₂) ∷ (stored_as S, l₃) ∷ placed w.more ms [] in
          -- [the further locals; the copy; its end; the answer; its end; the others; _1; its end; _0; its end; obs; the
          -- borrow; its token; what the others own; their tokens]
          pass1 ! (init ! 6 refl (tt, tt)) $ move ! (5 ∷ []) $ pass_all ! (tys ps) (vals κs ps a) typed bs rest $
          move ! (10 ∷ 11 ∷ 12 ∷ 6 ∷ 2 ∷ []) $
          takes_out ! S refl (spot_after 𝓤 H (tys ps) bs rest 1) h (
          -- [what the struct owns; its cell; the open borrow; obs; auth; _1; the copy; the others; the further locals; the
          -- copy's end; the answer; its end; _1's end; _0; its end; what the others own; their tokens]
          move ! (7 ∷ 8 ∷ []) $ w.makes 𝓛 C Λ κs a typed (y.ty, l₀) (reference S, l₁) s _ _ _ $
          move ! (2 ∷ 15 ∷ []) $ fjoin ! $ move ! (15 ∷ 0 ∷ []) $ join ! $ move ! (0 ∷ 1 ∷ 2 ∷ 3 ∷ 4 ∷ 5 ∷ 6 ∷ 7 ∷ 8 ∷ 10 ∷ []) $
          -- [what the function is handed; the others; the further locals; the struct's cell; the open borrow; obs; auth; _1;
          -- the copy; the answer; the copy's end; the answer's end; _1's end; _0; its end]
          puts_back ! at fm refl (spot_after 𝓤 H (tys ps) bs rest 0) (spot_after 𝓤 H (tys ps) bs rest 1) h called (w.reads 𝓛 κs a typed (y.ty, l₀) (reference S, l₁) s _ _) (λ r known.
          -- [obs; the borrow; its token; the others' tokens; what is told; the others; the further locals; _1; the copy; the
          -- answer; the copy's end; the answer's end; _1's end; _0; its end]
          move ! (4 ∷ []) $ pick ! (λ ws. split ! $ move ! (1 ∷ []) $ heard ! (F.Told κs h a r ws.1) (λ told. fsplit ! $ drop ! $
          move ! (9 ∷ []) $ assigns ! (y.evals 𝓛 _ (answer_at n ps at w y f) l₂ (spot_after 𝓤 H (tys ps) bs rest 0) r _) (from ! (stop !)) (init ! 13 refl (y.typed r known)) $
          returns ! (look ! 13 refl) $ forget ! 0 refl $ forget ! 8 refl $ forget ! 9 refl $ forget ! 13 refl $
          -- [the answer; what is said of the others; obs; the borrow; its token; the others' tokens; the others; the further
          -- locals; _1; the copy; its end; the answer's end; _1's end; _0; its end]
          move ! (13 ∷ 14 ∷ []) $ free1 ! $ move ! (8 ∷ 12 ∷ []) $ free1 ! $ move ! (6 ∷ []) $ free_all ! (tys ps) (vals κs ps a) typed bs rest $
          move ! (0 ∷ 9 ∷ []) $ free1 ! $ move ! (6 ∷ 7 ∷ []) $ free1 ! $ move ! (5 ∷ []) $ free_all ! w.more (w.made κs a) (w.made_typed κs a typed) ms [] $ free0 ! $
          by ! (exits r ws.1 told known)))))))))))

module _ {M : Type 1} {𝓤 : Ura M} (𝓛 : Logic 𝓤) (𝓜 : Model 𝓤 𝓛.H) (𝓡 : Running 𝓤 𝓛.H 𝓜) (γ : Routines) (key : Callee)
    {S : Struct} {n : ℕ} {ps : List (Passed (suc n))} {R : Declared} {L : LL.Laws R} (at : Within S R L) (w : Way S ps (layout (shape R))) (y : Result R L) (f : Callee) where
  -- so an export meets its contract, where what it calls meets the contract d
  open 𝓛 use {H}

  pub exported : Closed 𝓤 H (tables 𝓤 H 𝓜 𝓡 γ).C (tables 𝓤 H 𝓜 𝓡 γ).Λ key (function n ps at w y f)
      → (c : Clauses 𝓤 (lending S n ps y.P)) (d : Contract 𝓤) (r : Routine) → γ f ≡ r → Triple 𝓤 (𝓡.run r) d
      → Follows n ps at w y f 𝓛 d c
      → Meets 𝓛 (lending S n ps y.P).signature (𝓡.run (γ key)) (closing 𝓛 (lending S n ps y.P) c)
  unfolding tables_of
  exported unfolded c d r e met F =
      let 𝓣 : Tables 𝓤 H = tables_of 𝓤 H 𝓜 (tables 𝓤 H 𝓜 𝓡 γ) in
      let fn : Fn = function n ps at w y f in
      let known : Triple 𝓤 (𝓣.C f) d = cited 𝓤 H d 𝓜 𝓡 γ f r e met in
      let hs : Stays (lending S n ps y.P).signature.params (lending S n ps y.P).kept = stayed at w y f 𝓛 𝓣.C 𝓣.Λ d known c F in
      entered 𝓤 H (triple_of 𝓛 (lending S n ps y.P).signature (closing 𝓛 (lending S n ps y.P) c)) (tables 𝓤 H 𝓜 𝓡 γ).C (tables 𝓤 H 𝓜 𝓡 γ).Λ key fn unfolded
      (walk_Meets 𝓛 (lending S n ps y.P) hs (Goes-ref 𝓛 (suc n) 0 tt (plain (λ _. row S.type)), go_said 𝓛 (suc n) (slots ps) (kepts ps)) c (WpFn 𝓤 H 𝓣.C 𝓣.Λ fn) (WpFn-mono 𝓤 H 𝓛.laws 𝓣 fn)
      (walked 𝓛 (lending S n ps y.P) hs c (WpFn 𝓤 H 𝓣.C 𝓣.Λ fn) (λ κs. (mut_vals, spells κs ps)) (λ κs. (mut_Tells (named 0) κs.0 (row S.type), all_tell κs ps))
      (λ κs qs bounds a g are. via 𝓤 _ (fst∗ 𝓤 _ ((c κs a).requires g))
      (walk at w y f 𝓛 𝓣.C 𝓣.Λ d known c F κs qs a.0.ref_ptr.0 a.0.ref_ptr.1 a.0.ghost_name a.0.now a.1 g (fm_of 𝓤 H 𝓛.laws 𝓣) (all_typed κs ps a.1 are.1)))))
