-- Counting: a count of w bits, its overflow, and one count of a timer's register pair in each mode.
use Rattle.std.specs.Prelude.{ℕ, ◌+◌, ◌*◌, ◌/◌, ◌%◌, ◌^◌, cond, eqb}
use Rattle.machine.specs.declared.Count.{Count}

-- the next number of w bits
abbrev pub next : ℕ → ℕ → ℕ
next w n = (n + 1) % 2 ^ w

-- an overflow, all ones to zero, of a number of w bits: 1 or 0
abbrev pub overflow : ℕ → ℕ → ℕ
overflow w n = (n + 1) / 2 ^ w

-- a count of w bits that is reloaded on overflow
abbrev pub next_or : ℕ → ℕ → ℕ → ℕ
next_or w reload n = cond (eqb (overflow w n) 1) reload (next w n)

-- the 13 bits of mode 0: TH, and the low 5 of TL
abbrev pub pair13 : ℕ → ℕ → ℕ
pair13 tl th = th * 32 + tl % 32

-- the 16 bits of mode 1, and of Timer 2 and RCAP2
abbrev pub pair16 : ℕ → ℕ → ℕ
pair16 tl th = th * 256 + tl

-- mode 0: 13 bits, TH and the low 5 of TL; the top 3 of TL are kept
unfoldable pub count13 : ℕ → ℕ → Count
count13 tl th =
    record {
      tl = tl / 32 * 32 + next 13 (pair13 tl th) % 32;
      th = next 13 (pair13 tl th) / 32;
      overflow = overflow 13 (pair13 tl th);
    }

-- mode 1: 16 bits
unfoldable pub count16 : ℕ → ℕ → Count
count16 tl th =
    record {
      tl = next 16 (pair16 tl th) % 256;
      th = next 16 (pair16 tl th) / 256;
      overflow = overflow 16 (pair16 tl th);
    }

-- mode 2: TL alone, reloaded from TH on overflow
unfoldable pub reload8 : ℕ → ℕ → Count
reload8 tl th = record { tl = next_or 8 th tl; th = th; overflow = overflow 8 tl }

-- TL0 in mode 3: 8 bits
unfoldable pub count8 : ℕ → ℕ → Count
count8 tl th = record { tl = next 8 tl; th = th; overflow = overflow 8 tl }

-- no count: a timer that is not clocked, and Timer 1 in mode 3, which holds
unfoldable pub hold : ℕ → ℕ → Count
hold tl th = record { tl = tl; th = th; overflow = 0 }
