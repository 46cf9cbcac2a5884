-- A frame whose parts are written one after the other.
use Rattle.std.proofs.Common.{◌≡◌, ℕ, ◌+◌, List, ◌++◌, length, take, drop, sym, ◌∙◌, ap, ap₂, arith}
use Rattle.std.proofs.lemmas.List.{append_assoc, drop-drop, drop_at, length-append, take_all, take_at}
use Rattle.dvd_frame.specs.Edc.{edc_of}
use Rattle.dvd_frame.specs.Frame.{frame_head, data_frame}
use Rattle.dvd_frame.specs.Id.{word_bytes, ied_of}
use Rattle.dvd_frame.specs.Scrambling.{masked}
use Rattle.dvd_frame.specs.declared.scrambling.Rule.{Rule}

-- what is before a place, once a part is written there
put_part : (before part old new : List ℕ) (place after : ℕ) → take (place + length part) new ≡ take place old ++ part
    → take place old ≡ before → place + length part ≡ after → take after new ≡ before ++ part
put_part before part old new place after put was size =
    ap (λ (n : ℕ). take n new) (sym size) ∙ put ∙ ap (λ (l : List ℕ). l ++ part) was

-- ID, IED and CPR_MAI, Main Data, and the EDC of all of these; and Main Data scrambled where they are
pub frame_written : (word : ℕ) (rule : Rule) (cpr main ied check blank id_put ied_put cpr_put main_put whole scrambled : List ℕ)
    → length cpr ≡ 6 → length ied ≡ 2 → length main ≡ 2048 → length check ≡ 4 → length whole ≡ 2064
    → take (0 + length (word_bytes word)) id_put ≡ take 0 blank ++ word_bytes word
    → take (4 + length ied) ied_put ≡ take 4 id_put ++ ied
    → take (6 + length cpr) cpr_put ≡ take 6 ied_put ++ cpr
    → take (12 + length main) main_put ≡ take 12 cpr_put ++ main
    → take (2060 + length check) whole ≡ take 2060 main_put ++ check
    → ied ≡ ied_of word → check ≡ edc_of (take 2060 main_put) → scrambled ≡ masked word rule (take 2048 (drop 12 whole))
    → take 12 whole ++ (scrambled ++ drop 2048 (drop 12 whole)) ≡ data_frame word cpr rule main
frame_written word rule cpr main ied check blank id_put ied_put cpr_put main_put whole scrambled
    cpr_size ied_size size check_size whole_size put_id put_ied put_cpr put_main put_check ied_is check_is scrambled_is =
    let id : List ℕ = word_bytes word in
    let id_there : take 4 id_put ≡ id = put_id in
    let ied_there : take 6 ied_put ≡ id ++ ied = put_part id ied id_put ied_put 4 6 put_ied id_there (omega arith) in
    let head : List ℕ = id ++ ied ++ cpr in
    let head_size : length head ≡ 12 = omega (arith, length-append id ied, length-append (id ++ ied) cpr) in
    let head_there : take 12 cpr_put ≡ head = put_part (id ++ ied) cpr ied_put cpr_put 6 12 put_cpr ied_there (omega arith) in
    let main_there : take 2060 main_put ≡ head ++ main = put_part head main cpr_put main_put 12 2060 put_main head_there (omega arith) in
    let all_there : take 2064 whole ≡ head ++ main ++ check = put_part (head ++ main) check main_put whole 2060 2064 put_check main_there (omega arith) in
    let whole_is : whole ≡ head ++ main ++ check = sym (take_all 2064 whole (omega arith)) ∙ all_there in
    let from_head : whole ≡ head ++ (main ++ check) = whole_is ∙ append_assoc head main check in
    let starts : take 12 whole ≡ head = ap (λ (l : List ℕ). take 12 l) from_head ∙ take_at head (main ++ check) 12 head_size in
    let middle : take 2048 (drop 12 whole) ≡ main =
    ap (λ (l : List ℕ). take 2048 (drop 12 l)) from_head ∙ ap (λ (l : List ℕ). take 2048 l) (drop_at head (main ++ check) 12 head_size) ∙ take_at main check 2048 size in
    let end : drop 2048 (drop 12 whole) ≡ check =
    drop-drop 2048 12 whole ∙ ap (λ (l : List ℕ). drop 2060 l) whole_is ∙ drop_at (head ++ main) check 2060 (omega (arith, length-append head main)) in
    let head_is : head ≡ frame_head word cpr = ap (λ (l : List ℕ). id ++ l ++ cpr) ied_is in
    ap₂ (λ (h l : List ℕ). h ++ l) starts
    (ap₂ (λ (m t : List ℕ). m ++ t) (scrambled_is ∙ ap (masked word rule) middle) (end ∙ check_is ∙ ap edc_of main_there))
    ∙ sym (append_assoc head (masked word rule main) (edc_of (head ++ main)))
    ∙ ap (λ (h : List ℕ). h ++ masked word rule main ++ edc_of (h ++ main)) head_is
