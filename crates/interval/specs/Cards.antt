-- Cards of the 82C53: lists of calls from reset with the reply to each, run through the plain 82C53. One table with one proof.
use Rattle.std.specs.Prelude.{ℕ, ◌+◌, ◌≡◌, refl, cond, List, [], ◌∷◌, map}
use Rattle.machine.specs.Calls.{longest}
use Rattle.machine.specs.Lists.{Reply, says, nothing, number}
use Rattle.machine.specs.Same.{same}
use Rattle.machine.specs.Replies.{same_value, same_reply, same_replies}
use Rattle.interval.specs.Count.{most, one_below, digits_ok, decimal, decades, number_of, shown_as}
use Rattle.interval.specs.Counter.{fresh, reads, latch_now, control, begun, whole, bad_count, complete, write_byte, shown, read_byte, stands, load, counts0, down0, pulse0, down2, again, reloads, pulse2, with_gate, pulse as pulseOf}
use Rattle.interval.specs.Interval.{fields, counter_ok, accepted, reset_of, counter_at, put_at, outputs, pulse_all, pulses_all}
use Rattle.interval.specs.Calls.{answered, control_answer, write_answer, read_answer, pulse_answer, jump_answer}
use Rattle.interval.specs.Lists.{Call, play, run_by}
use Rattle.interval.specs.Lists.Call.{write, read, pulse, jump}

-- a call and the reply that the card gives it
record Asked : Type 0 where
  call : Call
  reply : Reply

abbrev asked : Call → Reply → Asked
asked c r = record { call = c; reply = r }

-- a byte is written, and one is read
abbrev set : ℕ → ℕ → Asked
set address byte = asked (write address byte) (says 0 nothing)

abbrev gives : ℕ → ℕ → Asked
gives address byte = asked (read address) (says 0 (number byte))

-- one pulse, and n of them, leave the outputs so
abbrev step : ℕ → ℕ → Asked
step gates outputs = asked (pulse gates) (says 0 (number outputs))

abbrev go : ℕ → ℕ → ℕ → Asked
go gates n outputs = asked (jump gates n) (says 0 (number outputs))

abbrev refused : ℕ → Call → Asked
refused n c = asked c (says n (number 0))

abbrev refused_write : ℕ → ℕ → ℕ → Asked
refused_write n address byte = asked (write address byte) (says n nothing)

-- the address of the control word; control words for counter 0, both bytes, and its latch
abbrev CONTROL : ℕ
CONTROL = 3

abbrev MODE0 : ℕ
MODE0 = 0x30

abbrev MODE0BCD : ℕ
MODE0BCD = 0x31

abbrev MODE2 : ℕ
MODE2 = 0x34

abbrev MODE2BCD : ℕ
MODE2BCD = 0x35

abbrev LATCH0 : ℕ
LATCH0 = 0x00

-- counter 0 after its control word, with a low and a high byte written
abbrev counting : ℕ → ℕ → ℕ → List Asked → List Asked
counting word low high then = set CONTROL word ∷ set 0 low ∷ set 0 high ∷ then

-- both bytes are read
abbrev holds : ℕ → ℕ → List Asked → List Asked
holds low high then = gives 0 low ∷ gives 0 high ∷ then

record Row : Type 0 where
  card : ℕ
  asks : List Asked

abbrev row : ℕ → List Asked → Row
row n asks = record { card = n; asks = asks }

cards : List Row
cards =
    -- a mode 0 count of 3 ends in pulse 4: the loading pulse does not count; then it counts on below 0
    row 1 (counting MODE0 3 0 (step 1 0 ∷ step 1 0 ∷ step 1 0 ∷ step 1 1 ∷ holds 0 0 (step 1 1 ∷ holds 0xff 0xff [])))
    -- nothing counts before a whole count
    ∷ row 1 (set CONTROL MODE0 ∷ go 1 5 0 ∷ set 0 3 ∷ go 1 5 0 ∷ holds 0 0 [])
    -- with the gate low it is loaded and not counted
    ∷ row 1 (counting MODE0 3 0 (go 0 5 0 ∷ holds 3 0 (go 1 2 0 ∷ step 1 1 ∷ [])))
    -- a mode 2 count of 3 has the output low in one pulse of three
    ∷ row 2
    (counting MODE2 3 0 (step 1 1 ∷ step 1 1 ∷ step 1 0 ∷ step 1 1 ∷ step 1 1 ∷ step 1 0 ∷ step 1 1 ∷ step 1 1 ∷ step 1 0 ∷ []))
    -- count 0 is 10,000 in BCD, in mode 0 and in mode 2, and one below it is 9999
    ∷ row 3 (counting MODE0BCD 0 0 (go 1 2 0 ∷ holds 0x99 0x99 (go 1 9998 0 ∷ step 1 1 ∷ [])))
    ∷ row 3 (counting MODE2BCD 0 0 (go 1 9999 1 ∷ step 1 0 ∷ step 1 1 ∷ holds 0 0 []))
    -- and 65,536 in binary: one below it is FFFF; a whole lap of it is a law of interval_jump
    ∷ row 4 (counting MODE0 0 0 (go 1 2 0 ∷ holds 0xff 0xff []))
    -- a latch taken between the low and the high byte: the high byte is the latched one, and it frees the latch
    ∷ row 5
    (counting MODE0 0x01 0x02 (step 1 0 ∷ gives 0 0x01 ∷ set CONTROL LATCH0 ∷ go 1 2 0 ∷ gives 0 0x02 ∷ holds 0xff 0x01 []))
    -- before a load it is 0000
    ∷ row 5 (set CONTROL MODE0 ∷ set CONTROL LATCH0 ∷ set 0 5 ∷ set 0 0 ∷ step 1 0 ∷ holds 0 0 (holds 5 0 []))
    -- a latch stays until its high byte is read, and a second meanwhile is ignored
    ∷ row 5
    (counting MODE0 0x00 0x01 (step 1 0 ∷ set CONTROL LATCH0 ∷ step 1 0 ∷ set CONTROL LATCH0 ∷ holds 0x00 0x01 (holds 0xff 0x00 [])))
    -- the first of two new bytes stops a mode 0 count; the output stays, and falls when the second completes the new count
    ∷ row 6 (counting MODE0 1 0 (go 1 2 1 ∷ set 0 7 ∷ go 1 5 1 ∷ holds 0 0 (set 0 0 ∷ go 1 0 0 ∷ step 1 0 ∷ holds 7 0 [])))
    ∷ row 6 (counting MODE0 9 0 (go 1 3 0 ∷ set 0 7 ∷ go 1 5 0 ∷ holds 7 0 []))
    -- a count that waits is loaded all the same; a whole count takes the place of one that waits
    ∷ row 6 (counting MODE0 9 0 (set 0 7 ∷ step 1 0 ∷ holds 9 0 []))
    ∷ row 6 (counting MODE0 9 0 (set 0 7 ∷ set 0 0 ∷ step 1 0 ∷ holds 7 0 []))
    -- a gate rise reloads mode 2; a pulse with a low gate forces the output high and holds the count
    ∷ row 7 (counting MODE2 3 0 (go 1 3 0 ∷ go 0 0 0 ∷ step 0 1 ∷ holds 1 0 (step 1 1 ∷ holds 3 0 [])))
    ∷ row 7 (counting MODE2 9 0 (go 1 4 1 ∷ go 0 5 1 ∷ holds 6 0 (step 1 1 ∷ holds 9 0 [])))
    -- a new mode 2 count is loaded at the next reload, by the count or by the gate; its first byte stops nothing; the first is loaded
    -- whatever the gate
    ∷ row 8 (counting MODE2 3 0 (go 1 2 1 ∷ set 0 9 ∷ set 0 0 ∷ step 1 0 ∷ step 1 1 ∷ holds 9 0 []))
    ∷ row 8 (counting MODE2 7 0 (go 1 2 1 ∷ set 0 9 ∷ step 1 1 ∷ holds 5 0 (set 0 0 ∷ step 0 1 ∷ step 1 1 ∷ holds 9 0 [])))
    ∷ row 8 (counting MODE2 3 0 (go 1 2 1 ∷ set 0 9 ∷ set 0 0 ∷ set 0 1 ∷ step 1 0 ∷ step 1 1 ∷ holds 9 0 []))
    ∷ row 8 (counting MODE2 3 0 (step 0 1 ∷ holds 3 0 []))
    -- a BCD borrow, over one decade and over three
    ∷ row 9 (counting MODE0BCD 0x20 0x00 (go 1 2 0 ∷ holds 0x19 0x00 []))
    ∷ row 9 (counting MODE0BCD 0x00 0x10 (go 1 2 0 ∷ holds 0x99 0x09 []))
    -- the low byte alone, and the high byte alone: the other is 00
    ∷ row 10 (set CONTROL 0x10 ∷ set 0 5 ∷ step 1 0 ∷ gives 0 5 ∷ step 1 0 ∷ gives 0 4 ∷ go 1 3 0 ∷ step 1 1 ∷ [])
    ∷ row 10 (set CONTROL 0x20 ∷ set 0 5 ∷ step 1 0 ∷ gives 0 5 ∷ step 1 0 ∷ gives 0 4 ∷ [])
    -- each counter has its own address, gate and output: counter 1 in mode 0, counter 2 in mode 2, low byte each
    ∷ row 11
    (set CONTROL 0x50 ∷ set CONTROL 0x94 ∷ set 1 1 ∷ set 2 2 ∷ step 6 4 ∷ step 6 2 ∷ step 0 6 ∷ step 6 6 ∷ step 6 2 ∷ gives 1 0xfe ∷ [])
    -- 12 for counter choice 3, before 11, an address above 3 and a read at 3; 11 for another mode; 110 is mode 2, and a latch has no mode
    ∷ row 12
    (refused_write 12 CONTROL 0xc0
    ∷ refused_write 12 CONTROL 0xf8
    ∷ refused_write 12 4 0
    ∷ refused 12 (read 3)
    ∷ refused_write 11 CONTROL 0x32
    ∷ refused_write 11 CONTROL 0x38
    ∷ set CONTROL 0x3c
    ∷ go 1 0 1
    ∷ set CONTROL 0x0e
    ∷ [])
    -- 13 when the count is complete: nothing changes, and the high byte is still next
    ∷ row 13 (set CONTROL MODE2 ∷ set 0 1 ∷ refused_write 13 0 0 ∷ set 0 1 ∷ step 1 1 ∷ holds 1 1 [])
    ∷ row 13 (set CONTROL MODE2BCD ∷ set 0 0x0a ∷ refused_write 13 0 0 ∷ refused_write 13 0 1 ∷ set CONTROL MODE2BCD ∷ set 0 9 ∷ set 0 0 ∷ [])
    ∷ row 13 (set CONTROL MODE2BCD ∷ set 0 1 ∷ refused_write 13 0 0 ∷ [])
    ∷ row 13 (set CONTROL MODE0BCD ∷ set 0 1 ∷ refused_write 13 0 0xa0 ∷ set 0 0x90 ∷ step 1 0 ∷ holds 0x01 0x90 [])
    -- 4 before 5
    ∷ row 14 (refused 4 (pulse 8) ∷ refused 4 (jump 8 (longest + 1)) ∷ refused 5 (jump 7 (longest + 1)) ∷ [])
    -- reads and writes alternate each by itself
    ∷ row 15 (counting MODE0 5 3 (step 1 0 ∷ set 0 7 ∷ gives 0 5 ∷ set 0 1 ∷ gives 0 3 ∷ step 1 0 ∷ holds 7 1 []))
    -- a control word gives count 0000, no latch and the low byte next, for reads and writes, and drops the count that waits
    ∷ row 16
    (counting MODE0 0x34 0x12 (step 1 0 ∷ set CONTROL LATCH0 ∷ gives 0 0x34 ∷ set 0 9 ∷ set 0 9 ∷ set 0 9 ∷ set CONTROL MODE0 ∷ go 1 5 0 ∷ holds 0 0 (set 0 5 ∷ set 0 0 ∷ step 1 0 ∷ holds 5 0 [])))
    -- the output at once: low in mode 0, high in mode 2
    ∷ row 16
    (counting MODE0 1 0 (go 1 2 1 ∷ set CONTROL MODE0 ∷ go 1 0 0 ∷ set CONTROL MODE2 ∷ go 1 0 1 ∷ set CONTROL MODE0 ∷ go 1 0 0 ∷ []))
    -- reset is that for mode 0, binary, both
    ∷ row 16 (set 0 0 ∷ set 0 1 ∷ go 1 2 0 ∷ holds 0xff 0 (go 1 254 0 ∷ step 1 1 ∷ []))
    ∷ []

-- the cards of the rows that fail
failing : List Row → List ℕ
failing [] = []
failing (r ∷ rs) =
    cond (same_replies (run_by play (map (λ (a : Asked). a.call) r.asks) reset_of).replies (map (λ (a : Asked). a.reply) r.asks))
    (failing rs)
    (r.card ∷ failing rs)

-- no row fails
cards_hold : failing cards ≡ []
unfolding cards failing same same_value same_reply same_replies most one_below digits_ok decimal decades number_of shown_as fresh reads latch_now control begun whole bad_count complete write_byte shown read_byte stands load counts0 down0 pulse0 down2 again reloads pulse2 with_gate pulseOf fields counter_ok accepted reset_of counter_at put_at outputs pulse_all pulses_all answered control_answer write_answer read_answer pulse_answer jump_answer play run_by
cards_hold = refl
