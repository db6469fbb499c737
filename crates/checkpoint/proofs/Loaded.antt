-- What a file that is read without a fault comes to: values of an accepted device, each with room in its field; and the bytes are those
-- that this device is written as.
use Prim.Native.Nat.{ℕ}
use mathlib.Core.Path.{◌≡◌, refl, sym, ap, subst, ◌∙◌}
use mathlib.Core.Bool.{true}
use mathlib.Core.List.{List, ◌++◌}
use mathlib.Core.Logic.{inl, inr}
use native.Mathlib.Omega.{arith}
use lib.Dec.{eqb}
use lib.ListN.{length, get_or, set, replicate, length-replicate}
use Rattle.machine.specs.Registers.{table, implemented_in, implemented}
use Rattle.machine.specs.Record.{registers, hidden_fields, accepted}
use Rattle.machine.specs.Times.{pairs_ok}
use Rattle.machine.specs.Checkpoint.{times_listed, values_of, place_of_received, place_of_sbuf, places, device_with, device_of, joined, section, register_entries, number_entries, time_entries, layout, written, file_of, kind_in}
use Rattle.machine.specs.Checkpoint.Reading.{reading}
use Rattle.machine.proofs.Choices.{chosen}
use Rattle.laws.proofs.Arrays.{elements, whole}
use Rattle.record.proofs.Accepted.{ranges_of}
use Rattle.layout.specs.Bytes.{Bytes}
use Rattle.layout.proofs.Order.{Kind}
use Rattle.values.specs.Values.{cut}
use Rattle.checkpoint.proofs.Steps.{all}
use Rattle.values.proofs.Room.{made_same, narrow_of}
use Rattle.checkpoint.proofs.Passes.{Passes, passes, still_accepted, as_many, distinct, read_as_written, compared, same_received}

-- no values read yet
abbrev none : List ℕ
none = replicate places 0

none_accepted : (kind : ℕ) → Kind kind → accepted (device_of kind none) ≡ true
unfolding accepted device_with registers hidden_fields pairs_ok table implemented_in implemented
none_accepted kind (inl e) = subst (λ (k : ℕ). accepted (device_of k none) ≡ true) (sym e) refl
none_accepted kind (inr e) = subst (λ (k : ℕ). accepted (device_of k none) ≡ true) (sym e) refl

layout_distinct : (kind : ℕ) → Kind kind → distinct (layout kind) ≡ true
unfolding layout section joined register_entries number_entries time_entries table implemented_in implemented
layout_distinct kind (inl e) = subst (λ (k : ℕ). distinct (layout k) ≡ true) (sym e) refl
layout_distinct kind (inr e) = subst (λ (k : ℕ). distinct (layout k) ≡ true) (sym e) refl

layout_compared : (kind : ℕ) → Kind kind → compared (layout kind) ≡ true
unfolding layout section joined register_entries number_entries time_entries table implemented_in implemented
layout_compared kind (inl e) = subst (λ (k : ℕ). compared (layout k) ≡ true) (sym e) refl
layout_compared kind (inr e) = subst (λ (k : ℕ). compared (layout k) ≡ true) (sym e) refl

-- a file is read as of kind 51 or 52
pub kind_read : (file : List ℕ) → Kind (kind_in file)
kind_read file = chosen Kind (eqb (get_or file 0 0) 11) 51 52 (inl refl) (inr refl)

module _ (kind : ℕ) (k : Kind kind) (file values rest : List ℕ) (e : all kind file ≡ reading values rest) where
  passed_so : Passes kind (layout kind) none file values rest
  passed_so = passes kind (layout kind) none file values rest e

  long : length values ≡ places
  long = as_many kind passed_so ∙ length-replicate {A = ℕ} places 0

  pub loaded_accepted : accepted (device_of kind values) ≡ true
  loaded_accepted = still_accepted kind passed_so (none_accepted kind k)

  same : get_or values place_of_received 0 ≡ get_or values place_of_sbuf 0
  same = same_received kind passed_so (layout_compared kind k)

  -- the code's device is that of the values
  pub loaded_made : device_with kind (cut values) ≡ device_of kind values
  unfolding device_with
  loaded_made =
      let r = (ranges_of (device_of kind values) loaded_accepted).serial.received in
      made_same values long (narrow_of values long kind loaded_accepted (omega (arith, same, r))) kind

  -- its values are those that were read
  own_values : values_of (device_of kind values) ≡ values
  unfolding values_of registers hidden_fields times_listed device_with
  own_values =
      let whole57 = whole 0 57 values long in
      ap (set (elements 0 57 0 values) 25) (sym same) ∙ whole57

  pub loaded_written : Bytes file → file ≡ file_of (device_of kind values) ++ rest
  unfolding file_of device_with
  loaded_written b =
      read_as_written kind passed_so (layout_distinct kind k) (length-replicate {A = ℕ} places 0) b
      ∙ ap (λ (vs : List ℕ). written (layout kind) vs ++ rest) (sym own_values)
