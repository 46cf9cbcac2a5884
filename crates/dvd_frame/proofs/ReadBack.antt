-- A frame that was made is read back.
use Rattle.std.proofs.Common.{◌≡◌, ℕ, ◌<◌, ◌^◌, true, List, ◌++◌, length, take, drop, None, refl, sym, ◌∙◌, ap, arith}
use Rattle.std.specs.Int.{from_be_bytes, w32}
use Rattle.std.specs.Str.{bytes_eq}
use Rattle.std.specs.Prelude.{bit_and}
use Rattle.std.proofs.lemmas.Nat.{from_be_bytes-to_be_bytes_4}
use Rattle.std.proofs.lemmas.List.{append_assoc, take_at, drop_at, length-append}
use Rattle.std.proofs.lemmas.Slice.Eq.{bytes_eq-Decides}
use Rattle.std.proofs.Common.{eq-eqb}
use Rattle.dvd_frame.specs.Edc.{edc_of}
use Rattle.dvd_frame.specs.Frame.{frame_head, data_frame, found_word, main_in, frame_cause}
use Rattle.dvd_frame.specs.Id.{word_bytes, ied_of, has_check, is_same_place}
use Rattle.dvd_frame.specs.Scrambling.{masked}
use Rattle.dvd_frame.specs.declared.scrambling.Rule.{Rule}
use Rattle.dvd_frame.proofs.IdChecks.{ied_right, length-ied_of}
use Rattle.dvd_frame.proofs.Masking.{masked_twice, length-masked}

-- a frame whose parts are at their places
record IsLaidOut (word : ℕ) (cpr scrambled check frame : List ℕ) : Type 0 where
  id : take 4 frame ≡ word_bytes word
  six : take 6 frame ≡ word_bytes word ++ ied_of word
  head : take 12 frame ≡ frame_head word cpr
  main : take 2048 (drop 12 frame) ≡ scrambled
  tail : drop 2060 frame ≡ check

-- a head, 2,048 bytes and a check, one after the other, are at their places
laid_out : (word : ℕ) (cpr scrambled check : List ℕ) → length cpr ≡ 6 → length scrambled ≡ 2048
    → IsLaidOut word cpr scrambled check (frame_head word cpr ++ scrambled ++ check)
laid_out word cpr scrambled check cpr_size size =
    let id = word_bytes word in
    let ied = ied_of word in
    let head = frame_head word cpr in
    let six_size : length (id ++ ied) ≡ 6 = omega (arith, length-append id ied, length-ied_of word) in
    let head_size : length head ≡ 12 = omega (arith, length-append (id ++ ied) cpr) in
    let most_size : length (head ++ scrambled) ≡ 2060 = omega (arith, length-append head scrambled) in
    let from_six : head ++ scrambled ++ check ≡ (id ++ ied) ++ (cpr ++ scrambled ++ check) = simp append_assoc in
    let from_head : head ++ scrambled ++ check ≡ head ++ (scrambled ++ check) = append_assoc head scrambled check in
    let from_id : (id ++ ied) ++ (cpr ++ scrambled ++ check) ≡ id ++ (ied ++ (cpr ++ scrambled ++ check)) = append_assoc id ied (cpr ++ scrambled ++ check) in
    record {
      id = ap (λ (l : List ℕ). take 4 l) (from_six ∙ from_id) ∙ take_at id (ied ++ (cpr ++ scrambled ++ check)) 4 refl;
      six = ap (λ (l : List ℕ). take 6 l) from_six ∙ take_at (id ++ ied) (cpr ++ scrambled ++ check) 6 six_size;
      head = ap (λ (l : List ℕ). take 12 l) from_head ∙ take_at head (scrambled ++ check) 12 head_size;
      main = ap (λ (l : List ℕ). take 2048 (drop 12 l)) from_head ∙ ap (λ (l : List ℕ). take 2048 l) (drop_at head (scrambled ++ check) 12 head_size)
          ∙ take_at scrambled check 2048 size;
      tail = drop_at (head ++ scrambled) check 2060 most_size;
    }

-- a frame that is laid out so, with the EDC of its unscrambled bytes, has no cause against its own ID
no_cause : (word : ℕ) (rule : Rule) (cpr main frame : List ℕ) → word < 2 ^ 32
    → IsLaidOut word cpr (masked word rule main) (edc_of (frame_head word cpr ++ main)) frame
    → (main_in frame rule ≡ main) × (frame_cause frame word rule ≡ None)
unfolding frame_cause
no_cause word rule cpr main frame fits laid =
    let found : found_word frame ≡ word = ap (λ (l : List ℕ). from_be_bytes w32 l) laid.id ∙ from_be_bytes-to_be_bytes_4 word fits in
    let read : main_in frame rule ≡ main =
    ap (λ (w : ℕ). masked w rule (take 2048 (drop 12 frame))) found ∙ ap (masked word rule) laid.main ∙ masked_twice word rule main in
    let right_ied : has_check (take 6 frame) ≡ true = ap has_check laid.six ∙ ied_right word in
    let same : is_same_place (found_word frame) word ≡ true = ap (λ (w : ℕ). is_same_place w word) found ∙ eq-eqb (bit_and word 0x0DFFFFFF) (bit_and word 0x0DFFFFFF) refl in
    let wanted : edc_of (take 12 frame ++ main_in frame rule) ≡ edc_of (frame_head word cpr ++ main) =
    ap (λ (l : List ℕ). edc_of (l ++ main_in frame rule)) laid.head ∙ ap (λ (l : List ℕ). edc_of (frame_head word cpr ++ l)) read in
    let right_edc : bytes_eq (drop 2060 frame) (edc_of (take 12 frame ++ main_in frame rule)) ≡ true =
    (bytes_eq-Decides (drop 2060 frame) (edc_of (take 12 frame ++ main_in frame rule))).1 (laid.tail ∙ sym wanted) in
    (read, rw (right_ied, same, right_edc) refl)

-- of a frame that was made the Main Data are read back, and no cause is found
pub read_back : (word : ℕ) (rule : Rule) (cpr main : List ℕ) → word < 2 ^ 32 → length cpr ≡ 6 → length main ≡ 2048
    → (main_in (data_frame word cpr rule main) rule ≡ main) × (frame_cause (data_frame word cpr rule main) word rule ≡ None)
read_back word rule cpr main fits cpr_size size =
    let check = edc_of (frame_head word cpr ++ main) in
    no_cause word rule cpr main (data_frame word cpr rule main) fits
    (laid_out word cpr (masked word rule main) check cpr_size (length-masked word rule main ∙ size))
