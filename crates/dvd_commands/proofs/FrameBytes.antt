-- A data frame is 2,064 bytes.
use Rattle.std.proofs.Common.{◌≡◌, ℕ, zero, suc, ◌+◌, ◌*◌, ◌/◌, ◌%◌, ◌<◌, ◌≤◌, nat_lt, true, false, cond, List, [], ◌∷◌, ◌++◌, length, get_or, take, drop, replicate, All, refl, sym, subst, ◌∙◌, arith}
use Rattle.std.specs.Prelude.{◌^◌, bit_xor}
use Rattle.std.proofs.lemmas.List.{length-append, length-drop, length-replicate, length-take-le}
use Rattle.std.proofs.lemmas.List.Elements.{All-append, All-cons, All-drop, All-from_get_or, All-nil, All-replicate, All-take}
use Rattle.std.proofs.lemmas.Nat.{xor_lt}
use Rattle.coding.specs.Bits.{bits}
use Rattle.dvd_frame.specs.Edc.{edc_of}
use Rattle.dvd_frame.specs.Frame.{data_frame, frame_head}
use Rattle.dvd_frame.specs.Id.{ied_of, word_bytes}
use Rattle.dvd_frame.specs.Scrambling.{window}
use Rattle.dvd_frame.specs.Scrambling.{mask, masked, preset_of, scrambled_count, scrambling_byte, sequence}
use Rattle.dvd_frame.specs.declared.scrambling.Rule.{Rule}
use Rattle.dvd_frame.proofs.IdChecks.{bytes-ied_of, length-ied_of}
use Rattle.dvd_frame.proofs.Masking.{get_or-masked, length-masked}
use Rattle.dvd_frame.proofs.Sequences.{byte_shown, shifted_window}

-- a byte is a number below 256
abbrev pub IsByte : ℕ → Type 0
IsByte b = b < 256

-- so many bytes
pub record HasBytes (n : ℕ) (xs : List ℕ) : Type 0 where
  pub size : length xs ≡ n
  pub bytes : All IsByte xs

-- one byte, so many times, is so many bytes
pub bytes-replicate : (n b : ℕ) → b < 256 → HasBytes n (replicate n b)
bytes-replicate n b is = record { size = length-replicate {A = ℕ} n b; bytes = All-replicate IsByte n b is }

-- bytes and others after them are as many as both together
pub bytes-append : (m n k : ℕ) (xs ys : List ℕ) → m + n ≡ k → HasBytes m xs → HasBytes n ys → HasBytes k (xs ++ ys)
bytes-append m n k xs ys is earlier back = record {
  size = omega (arith, length-append xs ys, earlier.size, back.size);
  bytes = All-append IsByte xs ys earlier.bytes back.bytes;
}

-- a part of some bytes is as many as it takes
pub bytes-part : (a m n : ℕ) (xs : List ℕ) → a + m ≤ n → HasBytes n xs → HasBytes m (take m (drop a xs))
bytes-part a m n xs within all = record {
  size = length-take-le m (drop a xs) (omega (arith, length-drop a xs, all.size));
  bytes = All-take IsByte m (drop a xs) (All-drop IsByte a xs all.bytes);
}

-- two numbers below 256 are two bytes
pub two_bytes : (first second : ℕ) → first < 256 → second < 256 → HasBytes 2 (first ∷ second ∷ [])
two_bytes first second p q = record { size = refl; bytes = All-cons IsByte first (second ∷ []) p (All-cons IsByte second [] q (All-nil IsByte)) }

-- an ID word is four bytes
bytes-word : (word : ℕ) → HasBytes 4 (word_bytes word)
bytes-word word =
    bytes-append 2 2 4 (word / 16777216 % 256 ∷ word / 65536 % 256 ∷ []) (word / 256 % 256 ∷ word % 256 ∷ []) (omega arith)
    (two_bytes (word / 16777216 % 256) (word / 65536 % 256) (omega arith) (omega arith))
    (two_bytes (word / 256 % 256) (word % 256) (omega arith) (omega arith))

-- its IED is two
bytes-ied : (word : ℕ) → HasBytes 2 (ied_of word)
bytes-ied word = record { size = length-ied_of word; bytes = bytes-ied_of word }

-- what the window shows at a byte is a register
register_shown : (preset k : ℕ) → (register : ℕ) × (bits 15 register ≡ window preset k)
unfolding window sequence
register_shown preset zero = (preset, refl)
register_shown preset (suc k) =
    let before = register_shown preset k in
    let next = before.0 % 2 ^ 7 * 256 + bit_xor (before.0 / 2 ^ 7) (before.0 / 2 ^ 3) % 2 ^ 8 in
    (next, subst (λ n. bits 15 next ≡ window preset n) (let is : k + 1 ≡ suc k = omega arith in is) (shifted_window preset k before.0 next refl before.1))

-- so what it scrambles with is a byte
scrambling_byte-lt : (preset k : ℕ) → scrambling_byte preset k < 256
scrambling_byte-lt preset k =
    let shown = register_shown preset k in
    subst (λ b. b < 256) (byte_shown preset k shown.0 shown.1) (omega arith)

-- and what masks a byte of Main Data is one
mask-lt : (word : ℕ) (rule : Rule) (k : ℕ) → mask word rule k < 256
unfolding mask
mask-lt word rule k = elim (nat_lt k (scrambled_count rule)) as (λ within. cond within (scrambling_byte (preset_of word) k) 0 < 256) [
  | true ↦ scrambling_byte-lt (preset_of word) k
  | false ↦ omega arith
]

-- masked bytes are bytes
bytes-masked : (n word : ℕ) (rule : Rule) (main : List ℕ) → HasBytes n main → HasBytes n (masked word rule main)
bytes-masked n word rule main whole =
    let size : length (masked word rule main) ≡ length main = length-masked word rule main in
    record {
      size = size ∙ whole.size;
      bytes = All-from_get_or IsByte (masked word rule main) 0 (λ k within.
          let below : k < length main = omega (arith, size) in
          subst IsByte (sym (get_or-masked word rule main k below))
          (xor_lt 8 (get_or main k 0) (mask word rule k) (whole.bytes k 0 below) (mask-lt word rule k)));
    }

-- an EDC is four bytes
bytes-edc : (bytes : List ℕ) → HasBytes 4 (edc_of bytes)
unfolding edc_of
bytes-edc bytes = bytes-word _

-- so a data frame of six bytes CPR_MAI and 2,048 bytes Main Data is 2,064 bytes
pub bytes-frame : (word : ℕ) (cpr : List ℕ) (rule : Rule) (main : List ℕ) → HasBytes 6 cpr → HasBytes 2048 main
    → HasBytes 2064 (data_frame word cpr rule main)
bytes-frame word cpr rule main six whole =
    let head = frame_head word cpr in
    bytes-append 2060 4 2064 (head ++ masked word rule main) (edc_of (head ++ main)) (omega arith)
    (bytes-append 12 2048 2060 head (masked word rule main) (omega arith)
    (bytes-append 6 6 12 (word_bytes word ++ ied_of word) cpr (omega arith)
    (bytes-append 4 2 6 (word_bytes word) (ied_of word) (omega arith) (bytes-word word) (bytes-ied word)) six)
    (bytes-masked 2048 word rule main whole))
    (bytes-edc (head ++ main))
