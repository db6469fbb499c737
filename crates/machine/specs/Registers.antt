-- Document 01, "The device record", first paragraph: the registers, their addresses and implemented bits.
-- The names of bits are those of document 003; a name stands for the bit's place.
use Rattle.std.specs.Prelude.{ℕ, Bool, cond, List, [], ◌∷◌, eqb}
use Rattle.std.specs.Int.Bits.{bit_and}

-- PCON
abbrev pub SMOD : ℕ
SMOD = 7

abbrev pub PD : ℕ
PD = 1

abbrev pub IDL : ℕ
IDL = 0

-- TCON
abbrev pub TF1 : ℕ
TF1 = 7

abbrev pub TR1 : ℕ
TR1 = 6

abbrev pub TF0 : ℕ
TF0 = 5

abbrev pub TR0 : ℕ
TR0 = 4

abbrev pub IE1 : ℕ
IE1 = 3

abbrev pub IT1 : ℕ
IT1 = 2

abbrev pub IE0 : ℕ
IE0 = 1

abbrev pub IT0 : ℕ
IT0 = 0

-- TMOD: GATE, C/T, and the lower of the two mode bits of each timer
abbrev pub GATE1 : ℕ
GATE1 = 7

abbrev pub C/T1 : ℕ
C/T1 = 6

abbrev pub MODE1 : ℕ
MODE1 = 4

abbrev pub GATE0 : ℕ
GATE0 = 3

abbrev pub C/T0 : ℕ
C/T0 = 2

abbrev pub MODE0 : ℕ
MODE0 = 0

-- SCON: the lower of the two mode bits SM0 SM1, and the others
abbrev pub SM01 : ℕ
SM01 = 6

abbrev pub SM2 : ℕ
SM2 = 5

abbrev pub REN : ℕ
REN = 4

abbrev pub TB8 : ℕ
TB8 = 3

abbrev pub RB8 : ℕ
RB8 = 2

abbrev pub TI : ℕ
TI = 1

abbrev pub RI : ℕ
RI = 0

-- IE: the general enable, and Timer 2's; the six sources stand at bits 0 to 5 of IE, IP, seen and polled
abbrev pub EA : ℕ
EA = 7

abbrev pub ET2 : ℕ
ET2 = 5

-- T2CON
abbrev pub TF2 : ℕ
TF2 = 7

abbrev pub EXF2 : ℕ
EXF2 = 6

abbrev pub RCLK : ℕ
RCLK = 5

abbrev pub TCLK : ℕ
TCLK = 4

abbrev pub EXEN2 : ℕ
EXEN2 = 3

abbrev pub TR2 : ℕ
TR2 = 2

abbrev pub C/T2 : ℕ
C/T2 = 1

abbrev pub CP/RL2 : ℕ
CP/RL2 = 0

-- the pin byte, and the saved levels, from RXD up
abbrev pub RXD : ℕ
RXD = 0

abbrev pub INT0 : ℕ
INT0 = 1

abbrev pub INT1 : ℕ
INT1 = 2

abbrev pub T0 : ℕ
T0 = 3

abbrev pub T1 : ℕ
T1 = 4

abbrev pub T2 : ℕ
T2 = 5

abbrev pub T2EX : ℕ
T2EX = 6

-- the addresses
abbrev pub PCON : ℕ
PCON = 0x87

abbrev pub TCON : ℕ
TCON = 0x88

abbrev pub TMOD : ℕ
TMOD = 0x89

abbrev pub TL0 : ℕ
TL0 = 0x8a

abbrev pub TL1 : ℕ
TL1 = 0x8b

abbrev pub TH0 : ℕ
TH0 = 0x8c

abbrev pub TH1 : ℕ
TH1 = 0x8d

abbrev pub SCON : ℕ
SCON = 0x98

abbrev pub SBUF : ℕ
SBUF = 0x99

abbrev pub IE : ℕ
IE = 0xa8

abbrev pub IP : ℕ
IP = 0xb8

abbrev pub T2CON : ℕ
T2CON = 0xc8

abbrev pub RCAP2L : ℕ
RCAP2L = 0xca

abbrev pub RCAP2H : ℕ
RCAP2H = 0xcb

abbrev pub TL2 : ℕ
TL2 = 0xcc

abbrev pub TH2 : ℕ
TH2 = 0xcd

-- a row of the table: an address, and the implemented bits there on kind 51 and on kind 52; a kind without any lacks the address
pub record Row : Type 0 where
  pub address : ℕ
  pub on51 : ℕ
  pub on52 : ℕ

abbrev row : ℕ → ℕ → ℕ → Row
row a m n = record { address = a; on51 = m; on52 = n }

-- the one table of addresses and implemented bits
unfoldable pub table : List Row
table =
    row PCON 0x8f 0x8f
    ∷ row TCON 0xff 0xff
    ∷ row TMOD 0xff 0xff
    ∷ row TL0 0xff 0xff
    ∷ row TL1 0xff 0xff
    ∷ row TH0 0xff 0xff
    ∷ row TH1 0xff 0xff
    ∷ row SCON 0xff 0xff
    ∷ row SBUF 0xff 0xff
    ∷ row IE 0x9f 0xbf
    ∷ row IP 0x1f 0x3f
    ∷ row T2CON 0 0xff
    ∷ row RCAP2L 0 0xff
    ∷ row RCAP2H 0 0xff
    ∷ row TL2 0 0xff
    ∷ row TH2 0 0xff
    ∷ []

abbrev on_kind : ℕ → Row → ℕ
on_kind kind r = cond (eqb kind 51) r.on51 r.on52

-- the implemented bits at an address, by the rows of a table
unfoldable pub implemented_in : List Row → ℕ → ℕ → ℕ
implemented_in [] kind a = 0
implemented_in (r ∷ rs) kind a = cond (eqb r.address a) (on_kind kind r) (implemented_in rs kind a)

-- the implemented bits at an address
unfoldable pub implemented : ℕ → ℕ → ℕ
implemented kind a = implemented_in table kind a

-- the kind lacks the address
abbrev pub lacks : ℕ → ℕ → Bool
lacks kind a = eqb (implemented kind a) 0

-- the implemented bits of a value that is written: the others ignore writes
abbrev pub kept : ℕ → ℕ → ℕ → ℕ
kept kind a v = bit_and v (implemented kind a)

-- no bit of x outside the implemented ones: those read 0
abbrev pub within : ℕ → ℕ → Bool
within mask x = eqb (bit_and x mask) x
