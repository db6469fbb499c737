-- Numbers as bytes, low first, for any width: each way back is the other's inverse; and how the two loops go on by a byte.
use Prim.Native.Nat.{ℕ, zero, suc, ◌+◌, ◌-◌, ◌*◌, ◌/◌, ◌%◌, ◌^◌, ◌<◌, ◌≤◌}
use mathlib.Core.Path.{◌≡◌, refl, sym, ap, ap₂, ◌∙◌}
use mathlib.Core.List.{List, [], ◌∷◌, ◌++◌, reverse, append_assoc}
use native.Mathlib.Nat.{pow-succ', pow-le-pow_right, sub-zero}
use native.Mathlib.Omega.{arith}
use lib.Dec.{lit<}
use lib.ListN.{length, take, drop, set, take-append-drop}
use Rattle.std.proofs.lemmas.List.{reverse-append, reverse-reverse, length_push}
use Rattle.machine.specs.Checkpoint.{bytes_of, number_of}
use borrow.Rule.Slice.PartMut.{put_mid, mid_len, Post-is}
use Rattle.laws.specs.Rows.{put}
use Rattle.laws.proofs.Rows.{put_take, put_drop, put_all}
use Rattle.layout.specs.Bytes.{Bytes}

pub bytes_length : (width n : ℕ) → length (bytes_of width n) ≡ width
unfolding bytes_of
bytes_length zero n = refl
bytes_length (suc width) n = ap suc (bytes_length width (n / 256))

-- a number that so many bytes have room for
pub number_bytes : (width n : ℕ) → n < 256 ^ width → number_of (bytes_of width n) ≡ n
unfolding bytes_of number_of
number_bytes zero n h = omega arith
number_bytes (suc width) n h =
    let p = pow-succ' 256 width in
    let e = number_bytes width (n / 256) (omega arith) in
    ap (λ (m : ℕ). n % 256 + 256 * m) e ∙ omega arith

-- bytes
pub bytes_number : (bytes : List ℕ) → Bytes bytes → bytes_of (length bytes) (number_of bytes) ≡ bytes
unfolding bytes_of number_of Bytes
bytes_number [] h = refl
bytes_number (b ∷ bytes) h =
    let l = h.0 in
    ap₂ (λ (x : ℕ) (xs : List ℕ). x ∷ xs) (omega arith)
    (ap (bytes_of (length bytes)) (omega arith) ∙ bytes_number bytes h.1)

pub bytes_parts : (xs ys : List ℕ) → Bytes (xs ++ ys) → Bytes xs × Bytes ys
unfolding Bytes
bytes_parts [] ys h = (tt, h)
bytes_parts (x ∷ xs) ys h = let r = bytes_parts xs ys h.1 in ((h.0, r.0), r.1)

-- `number`, from the last byte down: what is summed of the bytes that were read, the last of them first
pub record Summed (read : List ℕ) (n : ℕ) : Type 0 where
  pub sum : n ≡ number_of (reverse read)
  pub below : n < 256 ^ length read

pub sum_none : Summed [] 0
unfolding number_of
sum_none = record { sum = refl; below = lit< tt }

module _ (read : List ℕ) (n : ℕ) (s : Summed read n) where
  -- one byte more has room in eight
  room : (b : ℕ) → b < 256 → n * 256 + b < 256 ^ suc (length read)
  room b lb = let p = pow-succ' 256 (length read) in let u = s.below in omega arith

  pub fits : length read < 8 → (b : ℕ) → b < 256 → n * 256 + b < 2 ^ 64
  fits l b lb =
      let u = room b lb in
      let p = pow-le-pow_right {n = 256} (lit< tt) {i = suc (length read)} {j = 8} (omega arith) in
      omega arith

  pub sum_on : (b : ℕ) → b < 256 → Summed (read ++ b ∷ []) (n * 256 + b)
  unfolding number_of
  sum_on b lb =
      let e = s.sum in
      let l : length (read ++ b ∷ []) ≡ suc (length read) = length_push read b ∙ omega arith in
      record {
        sum = omega (arith, ap number_of (reverse-append read (b ∷ [])));
        below = rw l (room b lb);
      }

-- all were read
pub sum_all : (bytes read : List ℕ) (n : ℕ) → Summed read n → read ≡ reverse bytes → n ≡ number_of bytes
sum_all bytes read n s e = s.sum ∙ ap number_of (ap reverse e ∙ reverse-reverse bytes)

-- `put`, byte by byte: what is still to write comes to the number's bytes
pub record Putting (n : ℕ) (before now : List ℕ) (i left : ℕ) : Type 0 where
  pub within : i ≤ length before
  pub rest : put (bytes_of (length before - i) left) i now ≡ bytes_of (length before) n

module _ (n : ℕ) (before : List ℕ) where
  pub put_none : Putting n before before 0 n
  put_none =
      record {
        within = omega arith;
        rest = rw (sub-zero) (put_all (bytes_of (length before) n) before (bytes_length (length before) n));
      }

  module _ (now : List ℕ) (i left : ℕ) (p : Putting n before now i left) where
    pub put_on : i < length before → Putting n before (set now i (left % 256)) (i + 1) (left / 256)
    unfolding put bytes_of
    put_on h =
        let width = length before in
        let e : width - i ≡ suc (width - (i + 1)) = omega arith in
        let r : put (left % 256 ∷ bytes_of (width - (i + 1)) (left / 256)) i now ≡ bytes_of width n = rw e at p.rest in
        record {
          within = omega arith;
          rest = r;
        }

    pub put_out : length before ≤ i → now ≡ bytes_of (length before) n
    unfolding put bytes_of
    put_out h =
        let e : length before - i ≡ 0 = omega arith in
        rw e at p.rest

-- `put` on a part of a buffer writes the number's bytes into the buffer from there on
module _ (buffer : List ℕ) (at width : ℕ) (h : at + width ≤ length buffer) where
  part_long : length (take (at + width - at) (drop at buffer)) ≡ width
  part_long = mid_len at (at + width) buffer h ∙ omega arith

  row_back : (row : List ℕ) → length row ≡ width → put_mid at (at + width - at) buffer row ≡ put row at buffer
  row_back row e =
      let k = at + length row in
      let l : at + width ≡ k = omega arith in
      ap (λ (ys : List ℕ). take at buffer ++ (row ++ ys))
      (Post-is at (at + width) buffer (omega arith) ∙ ap (λ (j : ℕ). drop j buffer) l)
      ∙ (sym (append_assoc (take at buffer) row (drop k buffer))
      ∙ ((λ i. sym (put_take row at buffer (omega arith)) i ++ sym (put_drop row at k buffer (omega arith)) i)
      ∙ take-append-drop k (put row at buffer)))

  pub put_back : (n : ℕ) → put_mid at (at + width - at) buffer (bytes_of (length (take (at + width - at) (drop at buffer))) n)
      ≡ put (bytes_of width n) at buffer
  put_back n =
      ap (λ (k : ℕ). put_mid at (at + width - at) buffer (bytes_of k n)) part_long
      ∙ row_back (bytes_of width n) (bytes_length width n)
