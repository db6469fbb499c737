-- n pulses of a counter in closed form, as the code works them. The first is worked singly: it loads what waits, and sees whether the gate
-- has risen; the others find the gate as it was, and are these. proofs/Jumps.antt shows them equal to single pulses.
use Rattle.std.specs.Prelude.{ℕ, ◌+◌, ◌-◌, ◌*◌, ◌%◌, cond, ◌&&◌, not, eqb, leb, ltb}
use Rattle.interval.specs.declared.Counter.{Counter}
use Rattle.interval.specs.Count.{most, one_below}
use Rattle.interval.specs.Counter.{is, stands, load, counts0, again}

-- n counts down from c, the largest count being top, 65,535 or 9,999: one down is top up
unfoldable pub down_by : ℕ → ℕ → ℕ → ℕ
down_by top n c = (c + n * top) % (top + 1)

-- the counts that bring it to 1; one more brings it to 0 in mode 0, and to its reload in mode 2
unfoldable pub left : Counter → ℕ
left k = one_below (most k.bcd) k.count

-- n counts of mode 0: the output rises at 0
unfoldable pub after0 : ℕ → Counter → Counter
after0 n k = stands (down_by (most k.bcd) n k.count) (cond (ltb (left k) n) 1 k.output) k

-- n counts of mode 2 within a lap: the output falls with the one that brings the count to 1
unfoldable pub within2 : ℕ → Counter → Counter
within2 n k =
    stands (down_by (most k.bcd) n k.count) (cond (not (eqb n 0) && eqb n (left k)) 0 k.output) k

-- n pulses of mode 2 with the gate high: the first lap up to its reload, whole laps, and what is left over
unfoldable pub after2 : ℕ → Counter → Counter
after2 n k =
    let reloaded = load (again k) 1 k in
    cond (leb n (left k)) (within2 n k) (within2 ((n - (left k + 1)) % (left reloaded + 1)) reloaded)

-- n pulses that find the gate as it was
unfoldable pub steady : ℕ → ℕ → Counter → Counter
steady n gate k =
    cond (eqb k.mode 0) (cond (counts0 gate k) (after0 n k) k)
    (cond (is k.loaded) (cond (is gate) (after2 n k) (stands k.count (cond (eqb n 0) k.output 1) k)) k)
