-- Document 02, request Three, a counter of the 82C53: the control word, the latch, the bytes that are written and read, and one pulse with
-- a gate level.
use Rattle.std.specs.Prelude.{ℕ, zero, suc, ◌+◌, ◌*◌, ◌/◌, ◌%◌, Bool, cond, ◌&&◌, ◌||◌, not, eqb}
use Rattle.machine.specs.Bits.{bit, field}
use Rattle.interval.specs.declared.Counter.{Counter}
use Rattle.interval.specs.declared.ByteRead.{ByteRead}
use Rattle.interval.specs.Answers.{CounterAnswer}
use Rattle.interval.specs.Count.{most, one_below, digits_ok, number_of, shown_as}

-- a mark, a gate or an output is 1
abbrev pub is : ℕ → Bool
is mark = eqb mark 1

abbrev pub passed : Counter → CounterAnswer
passed k = record { code = 0; counter = k }

abbrev pub refuse : ℕ → Counter → CounterAnswer
refuse n k = record { code = n; counter = k }

-- The control word: SC1 SC0 choose the counter, RL1 RL0 are the format, 0 being a latch, M2 M1 M0 the mode, and bit 0 is BCD

abbrev pub SC : ℕ
SC = 6

abbrev pub RL : ℕ
RL = 4

abbrev pub M : ℕ
M = 1

abbrev pub BCD : ℕ
BCD = 0

abbrev pub choice_in : ℕ → ℕ
choice_in word = field SC 2 word

abbrev pub format_in : ℕ → ℕ
format_in word = field RL 2 word

-- the formats
abbrev pub LATCH : ℕ
LATCH = 0

abbrev pub LOW : ℕ
LOW = 1

abbrev pub HIGH : ℕ
HIGH = 2

abbrev pub BOTH : ℕ
BOTH = 3

-- mode 0 is 000, mode 2 is 010 and 110: M2 does not count in it
abbrev pub is_mode0 : ℕ → Bool
is_mode0 word = eqb (field M 3 word) 0

abbrev pub is_mode2 : ℕ → Bool
is_mode2 word = eqb (field M 2 word) 2

-- it gives count 0000, no latch, and the low byte next; no count waits, none is loaded. The output is low in mode 0, high in mode 2
unfoldable pub fresh : ℕ → ℕ → ℕ → ℕ → Counter
fresh mode bcd format gate =
    record {
      mode = mode;
      bcd = bcd;
      format = format;
      output = cond (eqb mode 0) 0 1;
      gate = gate;
      loaded = 0;
      waits = 0;
      first = 0;
      low = 0;
      high = 0;
      latched = 0;
      count = 0;
      reload = 0;
      waiting = 0;
      latch = 0;
    }

-- which byte is read next, and the latch
unfoldable pub reads : ℕ → ℕ → ℕ → Counter → Counter
reads high latched latch k =
    record {
      mode = k.mode;
      bcd = k.bcd;
      format = k.format;
      output = k.output;
      gate = k.gate;
      loaded = k.loaded;
      waits = k.waits;
      first = k.first;
      low = k.low;
      high = high;
      latched = latched;
      count = k.count;
      reload = k.reload;
      waiting = k.waiting;
      latch = latch;
    }

-- a latch takes the count as it stands; a second meanwhile is ignored
unfoldable pub latch_now : Counter → Counter
latch_now k = cond (is k.latched) k (reads k.high 1 k.count k)

-- a control word for this counter: a latch, which has no mode; 11 for another mode
unfoldable pub control : ℕ → Counter → CounterAnswer
control word k =
    cond (eqb (format_in word) LATCH) (passed (latch_now k))
    (cond (is_mode0 word || is_mode2 word)
    (passed (fresh (cond (is_mode0 word) 0 2) (bit BCD word) (format_in word) k.gate))
    (refuse 11 k))

-- A byte written

-- with both, the low byte comes first
abbrev pub low_first : Counter → Bool
low_first k = eqb k.format BOTH && not (is k.first)

-- the first of two bytes is written
unfoldable pub begun : ℕ → Counter → Counter
begun byte k =
    record {
      mode = k.mode;
      bcd = k.bcd;
      format = k.format;
      output = k.output;
      gate = k.gate;
      loaded = k.loaded;
      waits = k.waits;
      first = 1;
      low = byte;
      high = k.high;
      latched = k.latched;
      count = k.count;
      reload = k.reload;
      waiting = k.waiting;
      latch = k.latch;
    }

-- the two bytes of the count that a byte completes; a byte outside the format is 00
unfoldable pub whole : ℕ → Counter → ℕ
whole byte k = cond (eqb k.format LOW) byte (cond (eqb k.format HIGH) (byte * 256) (byte * 256 + k.low))

-- 13: a BCD digit above nine, or a mode 2 count of 1
unfoldable pub bad_count : ℕ → Counter → Bool
bad_count v k = (is k.bcd && not (digits_ok v)) || (not (eqb k.mode 0) && eqb v 1)

-- a count is complete and waits for its load, in the place of one that waited; in mode 0 the output falls
unfoldable pub complete : ℕ → Counter → Counter
complete n k =
    record {
      mode = k.mode;
      bcd = k.bcd;
      format = k.format;
      output = cond (eqb k.mode 0) 0 k.output;
      gate = k.gate;
      loaded = k.loaded;
      waits = 1;
      first = 0;
      low = 0;
      high = k.high;
      latched = k.latched;
      count = k.count;
      reload = k.reload;
      waiting = n;
      latch = k.latch;
    }

-- the byte that completes a count has it tested
unfoldable pub write_byte : ℕ → Counter → CounterAnswer
write_byte byte k =
    cond (low_first k) (passed (begun byte k))
    (cond (bad_count (whole byte k) k) (refuse 13 k)
    (passed (complete (number_of k.bcd (whole byte k)) k)))

-- A byte read

-- the two bytes that are shown: of the latch, or of the count as it stands
unfoldable pub shown : Counter → ℕ
shown k = shown_as k.bcd (cond (is k.latched) k.latch k.count)

-- with both, the low byte is read and the high byte is next
abbrev pub high_next : Counter → Bool
high_next k = eqb k.format BOTH && not (is k.high)

-- with both, low and high alternate; a latch stays until it is read, with both until its high byte is
unfoldable pub read_byte : Counter → ByteRead
read_byte k =
    record {
      value = cond (eqb k.format LOW || high_next k) (shown k % 256) (shown k / 256);
      counter = cond (high_next k) (reads 1 k.latched k.latch k) (reads 0 0 0 k);
    }

-- A pulse

-- a count and an output
unfoldable pub stands : ℕ → ℕ → Counter → Counter
stands n output k =
    record {
      mode = k.mode;
      bcd = k.bcd;
      format = k.format;
      output = output;
      gate = k.gate;
      loaded = k.loaded;
      waits = k.waits;
      first = k.first;
      low = k.low;
      high = k.high;
      latched = k.latched;
      count = n;
      reload = k.reload;
      waiting = k.waiting;
      latch = k.latch;
    }

-- a load: the count stands, it is the one to reload, and none waits
unfoldable pub load : ℕ → ℕ → Counter → Counter
load n output k =
    record {
      mode = k.mode;
      bcd = k.bcd;
      format = k.format;
      output = output;
      gate = k.gate;
      loaded = 1;
      waits = 0;
      first = k.first;
      low = k.low;
      high = k.high;
      latched = k.latched;
      count = n;
      reload = n;
      waiting = 0;
      latch = k.latch;
    }

-- Mode 0

-- it counts where a count is loaded, no first byte of a new one has stopped it, and the gate is high
unfoldable pub counts0 : ℕ → Counter → Bool
counts0 gate k = is k.loaded && (not (is k.first) && is gate)

-- one count: the output rises at 0, and counting goes on
unfoldable pub down0 : Counter → Counter
down0 k =
    let n = one_below (most k.bcd) k.count in
    stands n (cond (eqb n 0) 1 k.output) k

-- a written count is loaded, whatever the gate; the loading pulse does not count down
unfoldable pub pulse0 : ℕ → Counter → Counter
pulse0 gate k = cond (is k.waits) (load k.waiting k.output k) (cond (counts0 gate k) (down0 k) k)

-- Mode 2

-- one count: the output falls at 1
unfoldable pub down2 : Counter → Counter
down2 k =
    let n = one_below (most k.bcd) k.count in
    stands n (cond (eqb n 1) 0 k.output) k

-- what a reload loads: the new count where one waits, else the same again
unfoldable pub again : Counter → ℕ
again k = cond (is k.waits) k.waiting k.reload

-- the gate was low at the pulse before and is high at this one
abbrev pub risen : ℕ → Counter → Bool
risen gate k = eqb k.gate 0 && is gate

-- a reload: the gate has risen, or the count stands at 1
unfoldable pub reloads : ℕ → Counter → Bool
reloads gate k = risen gate k || eqb k.count 1

-- the first count is loaded on the next pulse, whatever the gate. Once one is loaded, a low gate forces the output high and holds the
-- count; with a high one there is a reload, at which the output is high, or a count
unfoldable pub pulse2 : ℕ → Counter → Counter
pulse2 gate k =
    cond (is k.loaded)
    (cond (is gate) (cond (reloads gate k) (load (again k) 1 k) (down2 k)) (stands k.count 1 k))
    (cond (is k.waits) (load k.waiting k.output k) k)

-- the gate's level at this pulse
unfoldable pub with_gate : ℕ → Counter → Counter
with_gate gate k =
    record {
      mode = k.mode;
      bcd = k.bcd;
      format = k.format;
      output = k.output;
      gate = gate;
      loaded = k.loaded;
      waits = k.waits;
      first = k.first;
      low = k.low;
      high = k.high;
      latched = k.latched;
      count = k.count;
      reload = k.reload;
      waiting = k.waiting;
      latch = k.latch;
    }

-- one pulse with a gate level
unfoldable pub pulse : ℕ → Counter → Counter
pulse gate k = with_gate gate (cond (eqb k.mode 0) (pulse0 gate k) (pulse2 gate k))

-- n pulses with one gate level
unfoldable pub pulses : ℕ → ℕ → Counter → Counter
pulses zero gate k = k
pulses (suc n) gate k = pulses n gate (pulse gate k)
