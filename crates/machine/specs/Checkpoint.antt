-- Document 02, request Eight: the checkpoint, a device as a file of bytes; the answer of what writes one and of what reads one.
use Rattle.std.specs.Prelude.{ℕ, zero, suc, ◌+◌, ◌*◌, ◌/◌, ◌%◌, Bool, true, cond, ◌&&◌, List, [], ◌∷◌, ◌++◌, map, eqb, leb, length, get_or, take, drop, set, replicate}
use Rattle.machine.specs.declared.Device.{Device}
use Rattle.machine.specs.declared.Answer.{Answer}
use Rattle.machine.specs.declared.Part.{Part}
use Rattle.machine.specs.declared.Part.TheVariants.{Mark, Value}
use Rattle.machine.specs.Registers.{Row, table, lacks}
use Rattle.machine.specs.Record.{Register, registers, Hidden, hidden_fields, accepted, zeros}
use Rattle.machine.specs.Calls.{passed, refuse, unless}

-- A number in so many bytes, low first, and the number that such bytes are

unfoldable pub bytes_of : ℕ → ℕ → List ℕ
bytes_of zero n = []
bytes_of (suc width) n = n % 256 ∷ bytes_of width (n / 256)

unfoldable pub number_of : List ℕ → ℕ
number_of [] = 0
number_of (b ∷ bytes) = b + 256 * number_of bytes

-- The values of a device, each at its place: registers by the rows of the table, from place 0, SBUF standing for the received byte;
-- hidden fields in document 01's order, from 16; saved levels from RXD up, from 34; the flag times, from 41: of each flag ever and number

unfoldable pub times_listed : List ℕ → List ℕ → List ℕ
times_listed [] number = []
times_listed (e ∷ ever) [] = []
times_listed (e ∷ ever) (n ∷ number) = e ∷ n ∷ times_listed ever number

unfoldable pub values_of : Device → List ℕ
values_of d =
    map (λ (r : Register). r.value) (registers d)
    ++ (map (λ (h : Hidden). h.value) (hidden_fields d) ++ (d.levels ++ times_listed d.times.ever d.times.number))

abbrev pub place_of_sbuf : ℕ
place_of_sbuf = 8

abbrev pub place_of_received : ℕ
place_of_received = 25

-- how many there are
abbrev pub places : ℕ
places = 57

-- the device of a kind that has these values
unfoldable pub device_with : ℕ → (ℕ → ℕ) → Device
device_with kind v =
    record {
      kind = kind;
      pcon = v 0;
      timers = record { tcon = v 1; tmod = v 2; tl0 = v 3; tl1 = v 4; th0 = v 5; th1 = v 6; due0 = v 26; due1 = v 27 };
      timer2 = record { t2con = v 11; rcap2l = v 12; rcap2h = v 13; tl2 = v 14; th2 = v 15; due2 = v 28 };
      serial =
          record {
            scon = v 7;
            send = record { position = v 16; value = v 17; counter = v 18 };
            receive = record { position = v 19; value = v 20; counter = v 21; votes = v 22; sample = v 23 };
            half = v 24;
            received = v place_of_sbuf;
          };
      interrupts = record { ie = v 9; ip = v 10; seen = v 29; polled = v 30; low = v 31; high = v 32 };
      levels = v 34 ∷ v 35 ∷ v 36 ∷ v 37 ∷ v 38 ∷ v 39 ∷ v 40 ∷ [];
      cycle = v 33;
      times =
          record {
            ever = v 41 ∷ v 43 ∷ v 45 ∷ v 47 ∷ v 49 ∷ v 51 ∷ v 53 ∷ v 55 ∷ [];
            number = v 42 ∷ v 44 ∷ v 46 ∷ v 48 ∷ v 50 ∷ v 52 ∷ v 54 ∷ v 56 ∷ [];
          };
    }

abbrev pub device_of : ℕ → List ℕ → Device
device_of kind values = device_with kind (λ p. get_or values p 0)

-- The layout of a file: its parts from the front. A mark is a byte that can only be this one, a count or an address; a value has a place
-- and so many bytes

-- a section: a one-byte count of its entries, and the entries
unfoldable pub joined : List (List Part) → List Part
joined [] = []
joined (entry ∷ entries) = entry ++ joined entries

unfoldable pub section : List (List Part) → List Part
section entries = Mark (length entries) ∷ joined entries

-- registers, as address and value, ascending: those that the kind has
unfoldable pub register_entries : ℕ → ℕ → List Row → List (List Part)
register_entries kind place [] = []
register_entries kind place (r ∷ rows) =
    cond (lacks kind r.address)
    (register_entries kind (place + 1) rows)
    ((Mark r.address ∷ Value place 1 ∷ []) ∷ register_entries kind (place + 1) rows)

-- hidden fields and saved levels, eight bytes each
unfoldable pub number_entries : ℕ → ℕ → List (List Part)
number_entries place zero = []
number_entries place (suc n) = (Value place 8 ∷ []) ∷ number_entries (place + 1) n

-- flag times: a byte, 1 for ever or 0 for never, and eight for the number
unfoldable pub time_entries : ℕ → ℕ → List (List Part)
time_entries place zero = []
time_entries place (suc n) = (Value place 1 ∷ Value (place + 1) 8 ∷ []) ∷ time_entries (place + 2) n

-- the three sections in their order: 11 or 16 registers, 18 hidden fields and 7 levels, 8 flags
unfoldable pub layout : ℕ → List Part
layout kind = section (register_entries kind 0 table) ++ (section (number_entries 16 25) ++ section (time_entries 41 8))

-- The file of a device

abbrev pub width_of : Part → ℕ
width_of (Mark m) = 1
width_of (Value place width) = width

abbrev pub number_at : List ℕ → Part → ℕ
number_at values (Mark m) = m
number_at values (Value place width) = get_or values place 0

unfoldable pub written : List Part → List ℕ → List ℕ
written [] values = []
written (p ∷ parts) values = bytes_of (width_of p) (number_at values p) ++ written parts values

unfoldable pub file_of : Device → List ℕ
file_of d = written (layout d.kind) (values_of d)

-- Save: 1, then 15 for a buffer of another length; a refused one leaves its buffer untouched

unfoldable pub save_fault : Device → ℕ → ℕ
save_fault d size = unless (accepted d) 1 (unless (eqb size (length (file_of d))) 15 0)

-- the code, and the buffer after the call
pub record Saved : Type 0 where
  pub code : ℕ
  pub buffer : List ℕ

unfoldable pub save_answer : Device → List ℕ → Saved
save_answer d buffer =
    let fault = save_fault d (length buffer) in
    record { code = fault; buffer = cond (eqb fault 0) (file_of d) buffer }

-- Load: the first fault met from the front decides

-- a reading: the values so far, 0 where none is read yet, and the bytes that are left; or the number of the first fault
pub data Reading : Type 0 where
  reading : List ℕ → List ℕ → Reading
  faulty : ℕ → Reading

-- a value, once whole: number 1 would not refuse the values so far, and the received byte equals the SBUF entry
unfoldable pub holds : ℕ → ℕ → List ℕ → Bool
holds kind place values =
    accepted (device_of kind values)
    && cond (eqb place place_of_received) (eqb (get_or values place_of_received 0) (get_or values place_of_sbuf 0)) true

-- a part that is whole: 16 for a wrong count or address, 17 for a value that does not hold
unfoldable pub judged : ℕ → Part → ℕ → List ℕ → List ℕ → Reading
judged kind (Mark m) n values rest = unless (eqb n m) (faulty 16) (reading values rest)
judged kind (Value place width) n values rest =
    unless (holds kind place (set values place n)) (faulty 17) (reading (set values place n) rest)

-- a part: 15 for a file cut short
unfoldable pub read_part : ℕ → Part → Reading → Reading
read_part kind p (faulty n) = faulty n
read_part kind p (reading values bytes) =
    unless (leb (width_of p) (length bytes)) (faulty 15)
    (judged kind p (number_of (take (width_of p) bytes)) values (drop (width_of p) bytes))

unfoldable pub read_parts : ℕ → List Part → Reading → Reading
read_parts kind [] r = r
read_parts kind (p ∷ parts) r = read_parts kind parts (read_part kind p r)

-- at the end: 15 for bytes left over; a refused file gives the kind 0 record
unfoldable pub finished : ℕ → Reading → Answer
finished kind (faulty n) = refuse n zeros
finished kind (reading values []) = passed (device_of kind values)
finished kind (reading values (b ∷ bytes)) = refuse 15 zeros

-- the register count gives the kind: 11 kind 51; with any other the file is read as of kind 52, whose count is 16
abbrev pub kind_in : List ℕ → ℕ
kind_in bytes = cond (eqb (get_or bytes 0 0) 11) 51 52

unfoldable pub load_answer : List ℕ → Answer
load_answer bytes =
    let kind = kind_in bytes in
    finished kind (read_parts kind (layout kind) (reading (replicate places 0) bytes))
