-- An address and user data have a sector: each word is encoded in turn, the P words first.
use Rattle.std.proofs.Common.{◌≡◌, ◌≢◌, ◌⊎◌, inl, inr, ℕ, zero, suc, ◌+◌, ◌-◌, ◌*◌, ◌/◌, ◌%◌, ◌<◌, ◌≤◌, List, [], ◌∷◌, ◌++◌, length, get_or, set, take, All, refl, sym, ◌∙◌, subst, arith}
use Rattle.std.specs.Prelude.{replicate}
use Rattle.std.specs.Int.{to_le_bytes, w32}
use Rattle.std.proofs.lemmas.Bool.{cases_lt}
use Rattle.std.proofs.lemmas.List.{length-set, get_or-set_other, get_or-take, length-take-le, length-append, length-replicate, take_at}
use Rattle.std.proofs.lemmas.List.Elements.{All-append, All-cons, All-nil, All-from_get_or, All-replicate, All-set, All-take}
use Rattle.coding.specs.BitDivision.{remainder_by}
use Rattle.coding.specs.Words.{IsByte, IsEncoded}
use Rattle.rs_code.proofs.Codewords.{encodable}
use Rattle.cd_sector.specs.Bits.{rising_bits_of, rising_number}
use Rattle.cd_sector.specs.Edc.{cd_divisor, cd_edc_of}
use Rattle.cd_sector.specs.Sector.{sync, digits, header, covered, data_part, IsSector}
use Rattle.cd_sector.specs.Words.{sector_place, word_size, sector_word, IsRight}
use Rattle.cd_sector.proofs.Places.{word_size-p, word_size-q, sector_place-p, sector_place-own, length-sector_word, get_or-sector_word, kept_right}
use Rattle.cd_sector.proofs.Encoding.{encoded_right}
use Rattle.cd_sector.proofs.Spread.{apart-p, apart-qq, sector_place-inside}
use Rattle.cd_sector.proofs.Faultless.{length-cd_edc_of, length-covered}
use Rattle.cd_sector.proofs.Assembly.{same_prefix, all_words}

-- a sector with these words encoded, and nothing changed below a place
pub record IsEncodedTo (from count limit : ℕ) (old sector : List ℕ) : Type 0 where
  pub size : length sector ≡ 2352
  pub bytes : All IsByte sector
  pub kept : (at : ℕ) → at < limit → get_or sector at 0 ≡ get_or old at 0
  pub right : (word : ℕ) → from ≤ word → word < from + count → IsRight sector word

-- one word encoded where it is
pub record IsOneMore (word : ℕ) (old sector : List ℕ) : Type 0 where
  pub size : length sector ≡ 2352
  pub bytes : All IsByte sector
  pub kept : (at : ℕ) → at ≢ sector_place word (word_size word - 2) → at ≢ sector_place word (word_size word - 1) → get_or sector at 0 ≡ get_or old at 0
  pub right : IsRight sector word

-- a word of a sector of bytes is one of bytes
bytes-sector_word : (sector : List ℕ) (word : ℕ) → word < 138 → length sector ≡ 2352 → All IsByte sector → All IsByte (sector_word sector word)
bytes-sector_word sector word below size bytes = All-from_get_or IsByte (sector_word sector word) 0
    (λ m inside. let within : m < word_size word = omega (arith, length-sector_word sector word) in
    subst IsByte (sym (get_or-sector_word sector word m within)) (bytes (sector_place word m) 0 (omega (arith, size, (sector_place-inside word m below within).1))))

-- each word of at least three bytes can be encoded where it is
one_more : (word : ℕ) (old : List ℕ) → word < 138 → 2 < word_size word → length old ≡ 2352 → All IsByte old → (sector : List ℕ) × IsOneMore word old sector
one_more word old below some size bytes = (
  new,
  record {
    size = length-set (set old p x) q y ∙ length-set old p x ∙ size;
    bytes = All-set IsByte (set old p x) q y (coded.1.codeword.bytes (n - 1) 0 (omega (arith, coded.1.codeword.size)))
        (All-set IsByte old p x (coded.1.codeword.bytes (n - 2) 0 (omega (arith, coded.1.codeword.size))) bytes);
    kept = λ at not_p not_q. get_or-set_other (set old p x) q at y 0 not_q ∙ get_or-set_other old p at x 0 not_p;
    right = encoded_right n word p q old message [] coded.0 refl some below message_size read
        (subst (λ (l : List ℕ). IsEncoded n 2 l coded.0) (sym (take_at message [] (n - 2) message_size)) coded.1) refl refl
        (omega (arith, size, (sector_place-inside word (n - 2) below (omega arith)).1)) (omega (arith, size, (sector_place-inside word (n - 1) below (omega arith)).1));
  },
)
  where
    n : ℕ
    n = word_size word

    p : ℕ
    p = sector_place word (n - 2)

    q : ℕ
    q = sector_place word (n - 1)

    message : List ℕ
    message = take (n - 2) (sector_word old word)

    message_size : length message ≡ n - 2
    message_size = length-take-le (n - 2) (sector_word old word) (omega (arith, length-sector_word old word))

    read : (m : ℕ) → m < length message → get_or message m 0 ≡ get_or old (sector_place word m) 0
    read m inside =
        get_or-take (n - 2) (sector_word old word) m 0 (omega (arith, message_size)) ∙ get_or-sector_word old word m (omega (arith, message_size))

    coded : (whole : List ℕ) × IsEncoded n 2 message whole
    coded = encodable n 2 message (omega arith) some message_size (All-take IsByte (n - 2) (sector_word old word) (bytes-sector_word old word below size bytes))

    x : ℕ
    x = get_or coded.0 (n - 2) 0

    y : ℕ
    y = get_or coded.0 (n - 1) 0

    new : List ℕ
    new = set (set old p x) q y

-- words of one kind, whose parity comes after a place, and which have no byte in common
record AreApart (from count limit : ℕ) : Type 0 where
  pub few : from + count ≤ 138
  pub some : (n : ℕ) → from ≤ n → n < from + count → 2 < word_size n
  pub past : (n m : ℕ) → from ≤ n → n < from + count → word_size n ≤ m + 2 → limit ≤ sector_place n m
  pub apart : (v n m k : ℕ) → from ≤ v → v < n → n < from + count → sector_place v m ≢ sector_place n k

-- the P words
p_words : AreApart 0 86 2076
p_words = record {
  few = omega arith;
  some = λ n _ below. omega (arith, word_size-p n below);
  past = λ n m _ below last. omega (arith, last, word_size-p n below, sector_place-p n m below);
  apart = λ v n m k _ before below. apart-p v n m k (omega arith) below (omega (arith, before));
}

-- the Q words
q_words : AreApart 86 52 2248
q_words = record {
  few = omega arith;
  some = λ n above _. omega (arith, word_size-q n above);
  past = λ n m above _ last.
      let own : 43 ≤ m = omega (arith, last, word_size-q n above) in omega (arith, sector_place-own n m above own);
  apart = λ v n m k above before below. apart-qq v n m k above (omega arith) (omega arith) below (omega (arith, before));
}

-- the first of them can be encoded, and nothing changes before their parity
words_encoded : (from most limit : ℕ) → AreApart from most limit → (old : List ℕ) (count : ℕ) → count ≤ most → length old ≡ 2352 → All IsByte old
    → (sector : List ℕ) × IsEncodedTo from count limit old sector
words_encoded from most limit words old zero within size bytes =
    (old, record { size = size; bytes = bytes; kept = λ at _. refl; right = λ word above below. absurd (omega arith) })
words_encoded from most limit words old (suc k) within size bytes = next (words_encoded from most limit words old k (omega arith) size bytes)
  where
    n : ℕ
    n = from + k

    next : (sector : List ℕ) × IsEncodedTo from k limit old sector → (sector : List ℕ) × IsEncodedTo from (suc k) limit old sector
    next (was, is) = after (one_more n was (omega (arith, words.few)) (words.some n (omega arith) (omega arith)) is.size is.bytes)
      where
        after : (sector : List ℕ) × IsOneMore n was sector → (sector : List ℕ) × IsEncodedTo from (suc k) limit old sector
        after (now, one) = (
          now,
          record {
            size = one.size;
            bytes = one.bytes;
            kept = λ at before. one.kept at
                (λ same. omega (arith, same, words.past n (word_size n - 2) (omega arith) (omega arith) (omega arith)))
                (λ same. omega (arith, same, words.past n (word_size n - 1) (omega arith) (omega arith) (omega arith)))
                ∙ is.kept at before;
            right = λ word above below. each word above below (cases_lt word n);
          },
        )
          where
            each : (word : ℕ) → from ≤ word → word < from + suc k → (word < n) ⊎ (n ≤ word) → IsRight now word
            each word above below (inl earlier) =
                kept_right was now word
                (λ m _. one.kept (sector_place word m)
                (words.apart word n m (word_size n - 2) above earlier (omega arith)) (words.apart word n m (word_size n - 1) above earlier (omega arith)))
                (is.right word above earlier)
            each word above below (inr here) = let same : n ≡ word = omega arith in subst (IsRight now) same one.right

-- a list of four bytes is one of bytes
four_bytes : (a b c d : ℕ) → a < 256 → b < 256 → c < 256 → d < 256 → All IsByte (a ∷ b ∷ c ∷ d ∷ [])
four_bytes a b c d a_byte b_byte c_byte d_byte =
    All-cons IsByte a (b ∷ c ∷ d ∷ []) a_byte (All-cons IsByte b (c ∷ d ∷ []) b_byte (All-cons IsByte c (d ∷ []) c_byte (All-cons IsByte d [] d_byte (All-nil IsByte))))

-- the bytes of a word of 32 bits are bytes
bytes-word : (word : ℕ) → All IsByte (to_le_bytes w32 word)
bytes-word word = four_bytes (word % 256) (word / 256 % 256) (word / 65536 % 256) (word / 16777216 % 256) (omega arith) (omega arith) (omega arith) (omega arith)

-- an EDC is of bytes
bytes-cd_edc_of : (bytes : List ℕ) → All IsByte (cd_edc_of bytes)
unfolding cd_edc_of
bytes-cd_edc_of bytes = bytes-word (rising_number (remainder_by cd_divisor (8 * length bytes) (rising_bits_of bytes ++ replicate 32 0)))

-- the sync is of bytes
bytes-sync : All IsByte sync
bytes-sync =
    All-append IsByte (0 ∷ []) (replicate 10 0xFF ++ 0 ∷ []) (All-replicate IsByte 1 0 (omega arith))
    (All-append IsByte (replicate 10 0xFF) (0 ∷ []) (All-replicate IsByte 10 0xFF (omega arith)) (All-replicate IsByte 1 0 (omega arith)))

-- what the EDC covers is of bytes
bytes-covered : (address : ℕ) (user : List ℕ) → address < 450000 → All IsByte user → All IsByte (covered address user)
unfolding covered
bytes-covered address user below bytes =
    All-append IsByte sync (header address ++ 0x01 ∷ user) bytes-sync
    (All-append IsByte (header address ++ 0x01 ∷ []) user
    (four_bytes (digits (address / 4500)) (digits (address / 75 % 60)) (digits (address % 75)) 0x01 (omega arith) (omega arith) (omega arith) (omega arith)) bytes)

-- each address below 450,000 and 2,048 bytes of user data have a sector
pub some_sector : (address : ℕ) (user : List ℕ) → address < 450000 → length user ≡ 2048 → All IsByte user → (sector : List ℕ) × IsSector address user sector
unfolding data_part
some_sector address user below size bytes = (
  q_done.0,
  record {
    size = q_done.1.size;
    begins = same_prefix 2076 q_done.0 start (omega (arith, q_done.1.size)) (omega (arith, start_size))
        (λ at before. q_done.1.kept at (omega arith) ∙ p_done.1.kept at before)
        ∙ take_at prefix (replicate 276 0) 2076 prefix_size;
    words = all_words (IsRight q_done.0)
        (λ word p. kept_right p_done.0 q_done.0 word
        (λ m inside. q_done.1.kept (sector_place word m) (omega (arith, sector_place-p word m p, word_size-p word p))) (p_done.1.right word (omega arith) (omega arith)))
        (λ word above within. q_done.1.right word above (omega arith));
  },
)
  where
    prefix : List ℕ
    prefix = data_part address user

    start : List ℕ
    start = prefix ++ replicate 276 0

    prefix_size : length prefix ≡ 2076
    prefix_size = omega (
      arith,
      length-append (covered address user ++ cd_edc_of (covered address user)) (replicate 8 0),
      length-append (covered address user) (cd_edc_of (covered address user)),
      length-cd_edc_of (covered address user),
      length-covered address user,
    )

    start_size : length start ≡ 2352
    start_size = omega (arith, length-append prefix (replicate 276 0), prefix_size, length-replicate {A = ℕ} 276 0)

    start_bytes : All IsByte start
    start_bytes = All-append IsByte prefix (replicate 276 0)
        (All-append IsByte (covered address user ++ cd_edc_of (covered address user)) (replicate 8 0)
        (All-append IsByte (covered address user) (cd_edc_of (covered address user)) (bytes-covered address user below bytes) (bytes-cd_edc_of (covered address user)))
        (All-replicate IsByte 8 0 (omega arith)))
        (All-replicate IsByte 276 0 (omega arith))

    p_done : (sector : List ℕ) × IsEncodedTo 0 86 2076 start sector
    p_done = words_encoded 0 86 2076 p_words start 86 (omega arith) start_size start_bytes

    q_done : (sector : List ℕ) × IsEncodedTo 86 52 2248 p_done.0 sector
    q_done = words_encoded 86 52 2248 q_words p_done.0 52 (omega arith) p_done.1.size p_done.1.bytes
