-- Cards of the checkpoint (document 02, request Eight): a file byte by byte, what it loads as, and every refusal. They hold by
-- computation (proofs/Files.antt).
use Rattle.std.specs.Prelude.{ℕ, ◌+◌, ◌-◌, ◌*◌, cond, List, [], ◌∷◌, ◌++◌, eqb, length, take, set, replicate}
use Rattle.machine.specs.declared.Device.{Device}
use Rattle.machine.specs.Record.{zeros}
use Rattle.machine.specs.Checkpoint.{values_of, file_of, save_answer, load_answer}
use Rattle.machine.specs.Same.{same}
use Rattle.machine.specs.Cards.{failing_by}

-- a device in which almost every value is another: 3 is the serial mode, so that position 11 is allowed
unfoldable pub sample : ℕ → Device
sample kind =
    let on52 : ℕ → ℕ = λ n. cond (eqb kind 51) 0 n in
    record {
      kind = kind;
      pcon = 0x83;
      timers = record { tcon = 0x51; tmod = 0x62; tl0 = 0x0a; tl1 = 0x0b; th0 = 0x0c; th1 = 0xfd; due0 = 1; due1 = 0 };
      timer2 = record { t2con = on52 0x34; rcap2l = on52 0x21; rcap2h = on52 0x22; tl2 = on52 0x23; th2 = on52 0x24; due2 = on52 1 };
      serial =
          record {
            scon = 0xf2;
            send = record { position = 11; value = 0x1a5; counter = 14 };
            receive = record { position = 7; value = 0x10b; counter = 13; votes = 2; sample = 1 };
            half = 1;
            received = 0xc3;
          };
      interrupts = record { ie = 0x92; ip = 0x15; seen = 0x0a; polled = 0x15; low = 1; high = 0 };
      levels = 0 ∷ 1 ∷ 1 ∷ 1 ∷ 0 ∷ 1 ∷ 1 ∷ [];
      cycle = 0x0807060504030201;
      times =
          record {
            ever = 1 ∷ 0 ∷ 1 ∷ 0 ∷ 1 ∷ 1 ∷ 0 ∷ 1 ∷ [];
            number = 5 ∷ 0 ∷ 0x0102 ∷ 0 ∷ 300 ∷ 0 ∷ 0 ∷ 0xffffffffffffffff ∷ [];
          };
    }

-- its file, byte by byte

-- eight bytes of a number below 256, and of one below 65,536
abbrev one : ℕ → List ℕ
one b = b ∷ 0 ∷ 0 ∷ 0 ∷ 0 ∷ 0 ∷ 0 ∷ 0 ∷ []

abbrev two : ℕ → ℕ → List ℕ
two low high = low ∷ high ∷ 0 ∷ 0 ∷ 0 ∷ 0 ∷ 0 ∷ 0 ∷ []

unfoldable pub registers_in : List ℕ
registers_in =
    0x87 ∷ 0x83 ∷ 0x88 ∷ 0x51 ∷ 0x89 ∷ 0x62 ∷ 0x8a ∷ 0x0a ∷ 0x8b ∷ 0x0b ∷ 0x8c ∷ 0x0c ∷ 0x8d ∷ 0xfd
    ∷ 0x98 ∷ 0xf2 ∷ 0x99 ∷ 0xc3 ∷ 0xa8 ∷ 0x92 ∷ 0xb8 ∷ 0x15 ∷ []

-- one after the other
abbrev bytes : List (List ℕ) → List ℕ
bytes [] = []
bytes (b ∷ more) = b ++ bytes more

unfoldable pub file : ℕ → List ℕ
file kind =
    bytes (
    cond (eqb kind 51) (11 ∷ registers_in)
    (16 ∷ registers_in ++ 0xc8 ∷ 0x34 ∷ 0xca ∷ 0x21 ∷ 0xcb ∷ 0x22 ∷ 0xcc ∷ 0x23 ∷ 0xcd ∷ 0x24 ∷ [])
    ∷ (25 ∷ [])
    ∷ one 11
    ∷ two 0xa5 0x01
    ∷ one 14
    ∷ one 7
    ∷ two 0x0b 0x01
    ∷ one 13
    ∷ one 2
    ∷ one 1
    ∷ one 1
    ∷ one 0xc3
    ∷ one 1
    ∷ one 0
    ∷ one (cond (eqb kind 51) 0 1)
    ∷ one 0x0a
    ∷ one 0x15
    ∷ one 1
    ∷ one 0
    ∷ (0x01 ∷ 0x02 ∷ 0x03 ∷ 0x04 ∷ 0x05 ∷ 0x06 ∷ 0x07 ∷ 0x08 ∷ [])
    ∷ one 0
    ∷ one 1
    ∷ one 1
    ∷ one 1
    ∷ one 0
    ∷ one 1
    ∷ one 1
    ∷ (8 ∷ [])
    ∷ (1 ∷ one 5)
    ∷ (0 ∷ one 0)
    ∷ (1 ∷ two 0x02 0x01)
    ∷ (0 ∷ one 0)
    ∷ (1 ∷ two 0x2c 0x01)
    ∷ (1 ∷ one 0)
    ∷ (0 ∷ one 0)
    ∷ (1 ∷ 0xff ∷ 0xff ∷ 0xff ∷ 0xff ∷ 0xff ∷ 0xff ∷ 0xff ∷ 0xff ∷ [])
    ∷ []
    )

-- where the second section's first value stands, a hidden field or level, and the pair of a flag
abbrev start : ℕ → ℕ
start kind = cond (eqb kind 51) 24 34

abbrev hidden_at : ℕ → ℕ → ℕ
hidden_at kind n = start kind + 8 * n

abbrev time_at : ℕ → ℕ → ℕ
time_at kind n = start kind + 201 + 9 * n

-- a row: a card's number, what came out and what the card says
pub record Row : Type 0 where
  pub card : ℕ
  pub out : List ℕ
  pub says : List ℕ

abbrev row : ℕ → List ℕ → List ℕ → Row
row card out says = record { card = card; out = out; says = says }

-- a load: its code, and the kind and values of the device; a refused one gives the kind 0 record
unfoldable pub loaded : List ℕ → List ℕ
loaded bytes = let a = load_answer bytes in a.code ∷ a.device.kind ∷ values_of a.device

abbrev loads : ℕ → List ℕ → Device → Row
loads card bytes d = row card (loaded bytes) (0 ∷ d.kind ∷ values_of d)

abbrev refuses : ℕ → List ℕ → ℕ → Row
refuses card bytes code = row card (loaded bytes) (code ∷ 0 ∷ values_of zeros)

-- the sample's file with another byte
abbrev with : ℕ → ℕ → ℕ → List ℕ
with kind at b = set (file kind) at b

-- a save: its code, and the buffer
unfoldable pub saves : Device → List ℕ → List ℕ
saves d buffer = let s = save_answer d buffer in s.code ∷ s.buffer

-- bytes of a buffer
abbrev buffer : ℕ → List ℕ
buffer n = replicate n 0x5a

-- a card of each kind
abbrev pub both : (ℕ → List Row) → List Row
both rows = rows 51 ++ rows 52

-- the file, byte by byte, and back
unfoldable pub cards1 : ℕ → List Row
cards1 kind = row 1 (file_of (sample kind)) (file kind) ∷ loads 2 (file kind) (sample kind) ∷ []

-- cut short: nothing, a count without an entry, an address without its value, inside a value, an ever without its number; and bytes left
-- over, after all that is right
unfoldable pub cards3 : ℕ → List Row
cards3 kind =
    refuses 3 [] 15
    ∷ refuses 3 (take 1 (file kind)) 15
    ∷ refuses 3 (take 2 (file kind)) 15
    ∷ refuses 3 (take (hidden_at kind 17 + 7) (file kind)) 15
    ∷ refuses 3 (take (time_at kind 7 + 1) (file kind)) 15
    ∷ refuses 3 (take (time_at kind 7 + 8) (file kind)) 15
    ∷ refuses 4 (file kind ++ 0 ∷ []) 15
    ∷ refuses 4 (file kind ++ file kind) 15
    ∷ []

-- another count or address: of each section, and the other kind's
unfoldable pub cards5 : ℕ → List Row
cards5 kind =
    refuses 5 (with kind 0 12) 16
    ∷ refuses 5 (with kind 0 (cond (eqb kind 51) 16 11)) 16
    ∷ refuses 5 (with kind 1 0x88) 16
    ∷ refuses 5 (with kind (start kind - 1) 24) 16
    ∷ refuses 5 (with kind (time_at kind 0 - 1) 7) 16
    ∷ []

-- a value that number 1 would refuse: bits that are not implemented, a position of another mode, more than a field holds, in a byte past
-- its field's too, a level, an ever, a never with a number
unfoldable pub cards6 : ℕ → List Row
cards6 kind =
    refuses 6 (with kind 2 0x93) 17
    ∷ refuses 6 (with kind (hidden_at kind 0) 12) 17
    ∷ refuses 6 (with kind 16 0x52) 17
    ∷ refuses 6 (with kind (hidden_at kind 1 + 1) 2) 17
    ∷ refuses 6 (with kind (hidden_at kind 7 + 1) 1) 17
    ∷ refuses 6 (with kind (hidden_at kind 13 + 7) 1) 17
    ∷ refuses 6 (with kind (hidden_at kind 18) 2) 17
    ∷ refuses 6 (with kind (time_at kind 0) 2) 17
    ∷ refuses 6 (with kind (time_at kind 1 + 1) 1) 17
    ∷ []

-- a received byte that disagrees, in its low byte or in another, and an SBUF entry that does
unfoldable pub cards7 : ℕ → List Row
cards7 kind =
    refuses 7 (with kind (hidden_at kind 9) 0xc2) 17
    ∷ refuses 7 (with kind (hidden_at kind 9 + 3) 1) 17
    ∷ refuses 7 (with kind 18 0xc2) 17
    ∷ []

-- the first fault from the front: a value that is cut off is not judged, an ever is judged before its number, leftover bytes come last
unfoldable pub cards8 : ℕ → List Row
cards8 kind =
    refuses 8 (take (hidden_at kind 0 + 1) (with kind (hidden_at kind 0) 12)) 15
    ∷ refuses 8 (take (time_at kind 0 + 1) (with kind (time_at kind 0) 2)) 17
    ∷ refuses 8 (with kind (time_at kind 7) 2 ++ 0 ∷ []) 17
    ∷ refuses 8 (set (with kind 2 0x93) 3 0x89) 17
    ∷ refuses 8 (set (with kind 1 0x88) 2 0x93) 16
    ∷ []

-- a save into a buffer of its length; one of another stays as it was, and so it does for a bad record, which is judged first
unfoldable pub cards9 : ℕ → List Row
cards9 kind =
    let whole = length (file kind) in
    row 9 (saves (sample kind) (buffer whole)) (0 ∷ file kind)
    ∷ row 9 (saves (sample kind) (buffer (whole - 1))) (15 ∷ buffer (whole - 1))
    ∷ row 9 (saves (sample kind) (buffer (whole + 1))) (15 ∷ buffer (whole + 1))
    ∷ row 9 (saves (sample kind) []) (15 ∷ [])
    ∷ row 9 (saves zeros (buffer whole)) (1 ∷ buffer whole)
    ∷ row 9 (saves zeros []) (1 ∷ [])
    ∷ []

-- on kind 51 the T2 due mark is 0; the two lengths
unfoldable pub cards10 : List Row
cards10 =
    refuses 6 (with 51 (hidden_at 51 12) 1) 17
    ∷ row 10 (length (file 51) ∷ length (file 52) ∷ []) (297 ∷ 307 ∷ [])
    ∷ []

-- the cards of the rows that fail
unfoldable pub failing : List Row → List ℕ
failing = failing_by (λ (r : Row). r.card) (λ (r : Row). same r.out r.says)
