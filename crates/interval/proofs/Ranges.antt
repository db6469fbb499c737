-- A counter passes the record check exactly where each of its fields is within its range: the tests taken apart, and put together.
use mathlib.Core.Path.{◌≡◌, subst}
use mathlib.Core.Bool.{true, cond, ◌&&◌}
use Prim.Native.Nat.{ℕ, ◌≤◌}
use lib.Dec.{eqb}
use Rattle.machine.specs.Record.{hidden_ok}
use Rattle.machine.proofs.Choices.{and_left, and_right, chosen}
use Rattle.machine.proofs.Accepted.{Each, Most, hidden_each, hidden_every}
use Rattle.machine.proofs.Accepted.Each.{done, ◌&◌}
use Rattle.interval.specs.declared.Counter.{Counter}
use Rattle.interval.specs.declared.Interval.{Interval}
use Rattle.interval.specs.Count.{most}
use Rattle.interval.specs.Interval.{mode_ok, format_ok, fields, counter_ok, accepted, counter_at}

-- the fields in groups, each within its range: what a control word sets, the levels, the counts, the byte that is written first, and what
-- is read
pub record Set (m f b : ℕ) : Type 0 where
  pub mode : mode_ok m ≡ true
  pub format : format_ok f ≡ true
  pub bcd : b ≤ 1

pub record Levels (o g : ℕ) : Type 0 where
  pub output : o ≤ 1
  pub gate : g ≤ 1

pub record Counts (top l w c r n : ℕ) : Type 0 where
  pub loaded : l ≤ 1
  pub waits : w ≤ 1
  pub count : c ≤ top
  pub reload : r ≤ top
  pub waiting : n ≤ top

pub record Begun (f l : ℕ) : Type 0 where
  pub first : f ≤ 1
  pub low : l ≤ 255

pub record Reads (top h l n : ℕ) : Type 0 where
  pub high : h ≤ 1
  pub latched : l ≤ 1
  pub latch : n ≤ top

pub record Within (k : Counter) : Type 0 where
  pub set : Set k.mode k.format k.bcd
  pub levels : Levels k.output k.gate
  pub counts : Counts (most k.bcd) k.loaded k.waits k.count k.reload k.waiting
  pub begun : Begun k.first k.low
  pub reads : Reads (most k.bcd) k.high k.latched k.latch

pub within_of : (k : Counter) → counter_ok k ≡ true → Within k
unfolding counter_ok fields
within_of k e =
    let rest = and_right (mode_ok k.mode) (format_ok k.format && hidden_ok (fields k)) e in
    go (and_left (mode_ok k.mode) _ e) (and_left (format_ok k.format) _ rest)
    (hidden_each (fields k) (and_right (format_ok k.format) (hidden_ok (fields k)) rest))
  where
    go : mode_ok k.mode ≡ true → format_ok k.format ≡ true → Each Most (fields k) → Within k
    go m f (bcd & (output & (gate & (loaded & (waits & (first & (low & (high & (latched & (count & (reload & (waiting & (latch & done))))))))))))) =
        record {
          set = record { mode = m; format = f; bcd = bcd };
          levels = record { output = output; gate = gate };
          counts = record { loaded = loaded; waits = waits; count = count; reload = reload; waiting = waiting };
          begun = record { first = first; low = low };
          reads = record { high = high; latched = latched; latch = latch };
        }

pub ok_of : (k : Counter) → Within k → counter_ok k ≡ true
unfolding counter_ok fields
ok_of k w =
    let c = w.counts in
    let r = w.reads in
    simp (w.set.mode, w.set.format)
    (hidden_every (fields k)
    (w.set.bcd & (w.levels.output & (w.levels.gate & (c.loaded & (c.waits & (w.begun.first & (w.begun.low & (r.high & (r.latched & (c.count & (c.reload & (c.waiting & (r.latch & done))))))))))))))

-- the counters of an accepted record
module _ (c : Interval) (e : accepted c ≡ true) where
  pub ok0 : counter_ok c.counter0 ≡ true
  unfolding accepted
  ok0 = and_left (counter_ok c.counter0) _ e

  both : (counter_ok c.counter1 && counter_ok c.counter2) ≡ true
  unfolding accepted
  both = and_right (counter_ok c.counter0) _ e

  pub ok1 : counter_ok c.counter1 ≡ true
  ok1 = and_left _ (counter_ok c.counter2) both

  pub ok2 : counter_ok c.counter2 ≡ true
  ok2 = and_right (counter_ok c.counter1) _ both

pub ok_at : (i : ℕ) (c : Interval) → accepted c ≡ true → counter_ok (counter_at i c) ≡ true
unfolding counter_at
ok_at i c e =
    chosen (λ (k : Counter). counter_ok k ≡ true) (eqb i 0) _ _ (ok0 c e)
    (chosen (λ (k : Counter). counter_ok k ≡ true) (eqb i 1) _ _ (ok1 c e) (ok2 c e))

-- and a record of such counters
pub accepted_of : (c : Interval) → Within c.counter0 → Within c.counter1 → Within c.counter2 → accepted c ≡ true
unfolding accepted
accepted_of c w0 w1 w2 = simp (ok_of c.counter0 w0, ok_of c.counter1 w1, ok_of c.counter2 w2)

-- what a counter in BCD shows is at most 9,999
pub shown_le : (k : Counter) → Within k → k.bcd ≡ 1 → cond (eqb k.latched 1) k.latch k.count ≤ 9999
unfolding most
shown_le k w e =
    chosen (λ (n : ℕ). n ≤ 9999) (eqb k.latched 1) _ _ (subst (λ (b : ℕ). k.latch ≤ most b) e w.reads.latch)
    (subst (λ (b : ℕ). k.count ≤ most b) e w.counts.count)
