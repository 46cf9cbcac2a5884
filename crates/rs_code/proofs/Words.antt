-- Four steps of the division in one: each of the four bytes that leave the register has a table of its own.
use Rattle.std.proofs.Common.{◌≡◌, ℕ, suc, ◌+◌, ◌*◌, ◌/◌, ◌%◌, ◌^◌, ◌<◌, ◌≤◌, List, [], ◌∷◌, ◌++◌, length, get_or, take, drop, drop-cons, drop_of_length-le, add-one, All, refl, sym, ap, ◌∙◌, arith, append_assoc}
use Rattle.std.specs.Int.{to_be_bytes, w32}
use Rattle.std.specs.List.{concat}
use Rattle.std.specs.Simd.{first_chunks}
use Rattle.std.proofs.lemmas.Nat.{xor_lt}
use Rattle.std.proofs.lemmas.List.{append-nil}
use Rattle.std.proofs.lemmas.List.Elements.{All-head, All-tail}
use Rattle.coding.specs.Field.{plus}
use Rattle.coding.specs.Words.{IsByte}
use Rattle.gf_field.proofs.FieldLaws.{plus-byte, plus-assoc}
use Rattle.rs_code.specs.Inner.Polynomials.{IsRemainder}
use Rattle.rs_code.specs.Inner.Registers.{register_bytes, HasMultiples, AreTables, after_byte, after_bytes}
use Rattle.rs_code.proofs.Chunks.{chunks_joined}
use Rattle.rs_code.proofs.Registers.{HoldsRemainder, after_byte-sum, after_byte-word, HoldsRemainder-next, HoldsRemainder-start}
use Rattle.rs_code.proofs.Ring.{ring}

-- the register after two lists of bytes is the one after the first, and then the second
pub after_bytes-append : (table : List ℕ) (n : ℕ) (prefix back : List ℕ) → after_bytes table n (prefix ++ back) ≡ after_bytes table (after_bytes table n prefix) back
unfolding after_bytes
after_bytes-append table n [] back = refl
after_bytes-append table n (byte ∷ prefix) back = after_bytes-append table (after_byte table n byte) prefix back

-- the remainder after more bytes
pub HoldsRemainder-bytes : (generator read table bytes : List ℕ) (n : ℕ)
    → n < 2 ^ 128
    → All IsByte bytes
    → ((i : ℕ) → get_or table i 0 < 2 ^ 128)
    → 0 < length generator
    → HasMultiples generator table 256
    → HoldsRemainder generator read n
    → HoldsRemainder generator (read ++ bytes) (after_bytes table n bytes)
unfolding after_bytes
HoldsRemainder-bytes generator read table [] n is_word all words some_degree has before = rw (append-nil read) before
HoldsRemainder-bytes generator read table (byte ∷ bytes) n is_word all words some_degree has before =
    let next = HoldsRemainder-next generator read table n byte is_word (All-head IsByte byte bytes all) some_degree has before in
    let after = HoldsRemainder-bytes generator (read ++ byte ∷ []) table bytes (after_byte table n byte) (after_byte-word table n byte words) (All-tail IsByte byte bytes all) words some_degree has next in
    rw append_assoc at after

-- the entries are numbers of 128 bits
abbrev pub AreWords : List ℕ → Type 0
AreWords table = (i : ℕ) → get_or table i 0 < 2 ^ 128

-- one step of a shifted register to which something was added
next_sum : (generator table : List ℕ) (r e byte next factor later : ℕ) → r < 2 ^ 128 → e < 2 ^ 128 → byte < 256 → AreWords table → HasMultiples generator table 256
    → r * 2 ^ 8 % 2 ^ 128 ≡ next → plus (r / 2 ^ 120) byte ≡ factor → after_byte table e 0 ≡ later
    → after_byte table (plus r e) byte ≡ plus next (plus (get_or table factor 0) later)
unfolding after_byte
next_sum generator table r e byte next factor later word_r word_e is_byte words has shifted leaves left =
    after_byte-sum generator table r e byte word_r word_e is_byte words has
    ∙ rw (shifted, leaves, left) (plus-assoc next (get_or table factor 0) later)

-- what is left of two entries later is what is left of each
later_sum : (generator table : List ℕ) (a b later_a later_b : ℕ) → a < 2 ^ 128 → b < 2 ^ 128 → AreWords table → HasMultiples generator table 256
    → after_byte table a 0 ≡ later_a → after_byte table b 0 ≡ later_b → after_byte table (plus a b) 0 ≡ plus later_a later_b
later_sum generator table a b later_a later_b word_a word_b words has left_a left_b =
    after_byte-sum generator table a b 0 word_a word_b (omega arith) words has ∙ rw (left_a, left_b) refl

-- the step, written out
after_byte-is : (table : List ℕ) (n byte : ℕ) → after_byte table n byte ≡ plus (n * 2 ^ 8 % 2 ^ 128) (get_or table (plus (n / 2 ^ 120) byte) 0)
unfolding after_byte
after_byte-is table n byte = refl

-- the four entries in the order in which they were added, and in that in which they are looked up
turned : (r t0 t1 t2 t3 : ℕ) → plus r (plus t0 (plus t1 (plus t2 t3))) ≡ plus (plus r (plus t3 t2)) (plus t1 t0)
turned r t0 t1 t2 t3 = simp ring

-- four bytes are read by one look-up for each
pub after_word : (generator : List ℕ) (tables : List (List ℕ)) (n a b c d : ℕ) → n < 2 ^ 128 → a < 256 → b < 256 → c < 256 → d < 256
    → AreTables generator tables
    → plus (plus (n * 2 ^ 32 % 2 ^ 128) (plus (get_or (get_or tables 3 []) (plus (n / 2 ^ 120) a) 0) (get_or (get_or tables 2 []) (plus (n / 2 ^ 112 % 256) b) 0)))
    (plus (get_or (get_or tables 1 []) (plus (n / 2 ^ 104 % 256) c) 0) (get_or (get_or tables 0 []) (plus (n / 2 ^ 96 % 256) d) 0))
    ≡ after_bytes (get_or tables 0 []) n (a ∷ b ∷ c ∷ d ∷ [])
unfolding after_bytes
after_word generator tables n a b c d is_word byte_a byte_b byte_c byte_d are = sym (fourth ∙ turned r4 (t 0 f0) (t 1 f1) (t 2 f2) (t 3 f3))
  where
    -- the first table
    table : List ℕ
    table = get_or tables 0 []

    -- the entry of a factor in the table with number k
    t : ℕ → ℕ → ℕ
    t k factor = get_or (get_or tables k []) factor 0

    -- the register shifted by one byte, and below by two, three and four
    r1 : ℕ
    r1 = n * 2 ^ 8 % 2 ^ 128

    r2 : ℕ
    r2 = n * 2 ^ 16 % 2 ^ 128

    r3 : ℕ
    r3 = n * 2 ^ 24 % 2 ^ 128

    r4 : ℕ
    r4 = n * 2 ^ 32 % 2 ^ 128

    -- the factors: the bytes that leave the register, from the first on, each plus the byte that comes
    f3 : ℕ
    f3 = plus (n / 2 ^ 120) a

    f2 : ℕ
    f2 = plus (n / 2 ^ 112 % 256) b

    f1 : ℕ
    f1 = plus (n / 2 ^ 104 % 256) c

    f0 : ℕ
    f0 = plus (n / 2 ^ 96 % 256) d

    -- the first three of them are bytes
    byte_f3 : f3 < 256
    byte_f3 = plus-byte (n / 2 ^ 120) a (omega arith) byte_a

    byte_f2 : f2 < 256
    byte_f2 = plus-byte (n / 2 ^ 112 % 256) b (omega arith) byte_b

    byte_f1 : f1 < 256
    byte_f1 = plus-byte (n / 2 ^ 104 % 256) c (omega arith) byte_c

    -- the entries of the tables are numbers of 128 bits, and so are sums of such
    word_0 : (factor : ℕ) → t 0 factor < 2 ^ 128
    word_0 factor = are.words factor

    word_1 : (factor : ℕ) → factor < 256 → t 1 factor < 2 ^ 128
    word_1 factor is_byte = rw (are.one factor is_byte) (after_byte-word table (t 0 factor) 0 are.words)

    word_2 : (factor : ℕ) → factor < 256 → t 2 factor < 2 ^ 128
    word_2 factor is_byte = rw (are.two factor is_byte) (after_byte-word table (t 1 factor) 0 are.words)

    sum_word : (x y : ℕ) → x < 2 ^ 128 → y < 2 ^ 128 → plus x y < 2 ^ 128
    sum_word x y word_x word_y = xor_lt 128 x y word_x word_y

    -- a step of a shifted register to which entries were added
    step : (r e byte next factor later : ℕ) → r < 2 ^ 128 → e < 2 ^ 128 → byte < 256
        → r * 2 ^ 8 % 2 ^ 128 ≡ next → plus (r / 2 ^ 120) byte ≡ factor → after_byte table e 0 ≡ later
        → after_byte table (plus r e) byte ≡ plus next (plus (t 0 factor) later)
    step r e byte next factor later word_r word_e is_byte shifted leaves left =
        next_sum generator table r e byte next factor later word_r word_e is_byte are.words are.multiples shifted leaves left

    -- the register after one byte
    first : after_byte table n a ≡ plus r1 (t 0 f3)
    first = after_byte-is table n a

    -- after two bytes
    second : after_byte table (after_byte table n a) b ≡ plus r2 (plus (t 0 f2) (t 1 f3))
    second = rw first
        (step r1 (t 0 f3) b r2 f2 (t 1 f3) (omega arith) (word_0 f3) byte_b (omega arith) (ap (λ m. plus m b) (omega arith)) (sym (are.one f3 byte_f3)))

    -- what is left of the entries of two bytes
    later2 : after_byte table (plus (t 0 f2) (t 1 f3)) 0 ≡ plus (t 1 f2) (t 2 f3)
    later2 = later_sum generator table (t 0 f2) (t 1 f3) (t 1 f2) (t 2 f3) (word_0 f2) (word_1 f3 byte_f3) are.words are.multiples (sym (are.one f2 byte_f2)) (sym (are.two f3 byte_f3))

    -- after three bytes
    third : after_byte table (after_byte table (after_byte table n a) b) c ≡ plus r3 (plus (t 0 f1) (plus (t 1 f2) (t 2 f3)))
    third = rw second
        (step r2 (plus (t 0 f2) (t 1 f3)) c r3 f1 (plus (t 1 f2) (t 2 f3)) (omega arith) (sum_word (t 0 f2) (t 1 f3) (word_0 f2) (word_1 f3 byte_f3)) byte_c (omega arith) (ap (λ m. plus m c) (omega arith)) later2)

    -- what is left of the entries of three bytes
    later3 : after_byte table (plus (t 0 f1) (plus (t 1 f2) (t 2 f3))) 0 ≡ plus (t 1 f1) (plus (t 2 f2) (t 3 f3))
    later3 = later_sum generator table (t 0 f1) (plus (t 1 f2) (t 2 f3)) (t 1 f1) (plus (t 2 f2) (t 3 f3)) (word_0 f1) (sum_word (t 1 f2) (t 2 f3) (word_1 f2 byte_f2) (word_2 f3 byte_f3)) are.words are.multiples
        (sym (are.one f1 byte_f1))
        (later_sum generator table (t 1 f2) (t 2 f3) (t 2 f2) (t 3 f3) (word_1 f2 byte_f2) (word_2 f3 byte_f3) are.words are.multiples (sym (are.two f2 byte_f2)) (sym (are.three f3 byte_f3)))

    -- after four bytes
    fourth : after_byte table (after_byte table (after_byte table (after_byte table n a) b) c) d ≡ plus r4 (plus (t 0 f0) (plus (t 1 f1) (plus (t 2 f2) (t 3 f3))))
    fourth = rw third
        (step r3 (plus (t 0 f1) (plus (t 1 f2) (t 2 f3))) d r4 f0 (plus (t 1 f1) (plus (t 2 f2) (t 3 f3))) (omega arith)
        (sum_word (t 0 f1) (plus (t 1 f2) (t 2 f3)) (word_0 f1) (sum_word (t 1 f2) (t 2 f3) (word_1 f2 byte_f2) (word_2 f3 byte_f3))) byte_d (omega arith) (ap (λ m. plus m d) (omega arith)) later3)

-- the bytes that leave the register are its upper four
leaving : (n : ℕ) (bytes : List ℕ) → n < 2 ^ 128 → bytes ≡ to_be_bytes w32 (n / 2 ^ 96)
    → (get_or bytes 0 0 ≡ n / 2 ^ 120) × (get_or bytes 1 0 ≡ n / 2 ^ 112 % 256) × (get_or bytes 2 0 ≡ n / 2 ^ 104 % 256) × (get_or bytes 3 0 ≡ n / 2 ^ 96 % 256)
leaving n bytes is_word are =
    let first : get_or (to_be_bytes w32 (n / 2 ^ 96)) 0 0 ≡ n / 2 ^ 120 = omega arith in
    let second : get_or (to_be_bytes w32 (n / 2 ^ 96)) 1 0 ≡ n / 2 ^ 112 % 256 = omega arith in
    let third : get_or (to_be_bytes w32 (n / 2 ^ 96)) 2 0 ≡ n / 2 ^ 104 % 256 = omega arith in
    let fourth : get_or (to_be_bytes w32 (n / 2 ^ 96)) 3 0 ≡ n / 2 ^ 96 % 256 = omega arith in
    rw are (first, second, third, fourth)

-- the sum of the shifted register and of the four entries
abbrev pub next_register_at : List (List ℕ) → ℕ → List ℕ → List ℕ → ℕ
next_register_at tables n bytes word =
    plus (plus (n * 2 ^ 32 % 2 ^ 128) (plus (get_or (get_or tables 3 []) (plus (get_or bytes 0 0) (get_or word 0 0)) 0) (get_or (get_or tables 2 []) (plus (get_or bytes 1 0) (get_or word 1 0)) 0)))
    (plus (get_or (get_or tables 1 []) (plus (get_or bytes 2 0) (get_or word 2 0)) 0) (get_or (get_or tables 0 []) (plus (get_or bytes 3 0) (get_or word 3 0)) 0))

-- so the sum is the register after the word's four bytes
pub word_read : (generator : List ℕ) (tables : List (List ℕ)) (n : ℕ) (bytes word rest : List ℕ) → n < 2 ^ 128 → length word ≡ 4 → ((k : ℕ) → get_or word k 0 < 256)
    → bytes ≡ to_be_bytes w32 (n / 2 ^ 96) → AreTables generator tables
    → after_bytes (get_or tables 0 []) (next_register_at tables n bytes word) rest ≡ after_bytes (get_or tables 0 []) n (word ++ rest)
word_read generator tables n bytes (a ∷ b ∷ c ∷ d ∷ []) rest is_word size small are_bytes are =
    let tops = leaving n bytes is_word are_bytes in
    let whole = after_word generator tables n a b c d is_word (small 0) (small 1) (small 2) (small 3) are in
    ap (λ m. after_bytes (get_or tables 0 []) m rest) (rw (tops.0, tops.1, tops.2, tops.3) whole)
    ∙ sym (after_bytes-append (get_or tables 0 []) n (a ∷ b ∷ c ∷ d ∷ []) rest)
word_read generator tables n bytes [] rest is_word size small are_bytes are = absurd (omega arith)
word_read generator tables n bytes (a ∷ []) rest is_word size small are_bytes are = absurd (omega arith)
word_read generator tables n bytes (a ∷ b ∷ []) rest is_word size small are_bytes are = absurd (omega arith)
word_read generator tables n bytes (a ∷ b ∷ c ∷ []) rest is_word size small are_bytes are = absurd (omega arith)
word_read generator tables n bytes (a ∷ b ∷ c ∷ d ∷ e ∷ others) rest is_word size small are_bytes are = absurd (omega arith)

-- the words that are left begin with this one
pub words_left : (words : List (List ℕ)) (i : ℕ) (word rest : List ℕ) → i < length words → word ≡ get_or words i []
    → concat (drop i words) ++ rest ≡ word ++ (concat (drop (i + 1) words) ++ rest)
words_left words i word rest inside is =
    ap (λ l. concat l ++ rest) (drop-cons words i [] inside) ∙ rw (is, add-one) (append_assoc (get_or words i []) (concat (drop (suc i) words)) rest)

-- one word more was read
pub words_more : (table : List ℕ) (words : List (List ℕ)) (start now next i : ℕ) (rest : List ℕ) → i < length words
    → after_bytes table next (concat (drop (i + 1) words) ++ rest) ≡ after_bytes table now (get_or words i [] ++ (concat (drop (i + 1) words) ++ rest))
    → after_bytes table now (concat (drop i words) ++ rest) ≡ after_bytes table start (concat words ++ rest)
    → after_bytes table next (concat (drop (i + 1) words) ++ rest) ≡ after_bytes table start (concat words ++ rest)
words_more table words start now next i rest inside read before =
    read ∙ ap (after_bytes table now) (sym (words_left words i (get_or words i []) rest inside refl)) ∙ before

-- all words were read
pub words_done : (table : List ℕ) (words : List (List ℕ)) (start now i : ℕ) (rest : List ℕ) → length words ≤ i
    → after_bytes table now (concat (drop i words) ++ rest) ≡ after_bytes table start (concat words ++ rest)
    → after_bytes table now rest ≡ after_bytes table start (concat words ++ rest)
words_done table words start now i rest past before =
    sym (ap (λ l. after_bytes table now (concat l ++ rest)) (drop_of_length-le words past)) ∙ before

-- the whole words and the bytes after them are the message
pub message_read : (table message others : List ℕ) (words : List (List ℕ)) (middle register : ℕ)
    → words ≡ first_chunks 4 (length message / 4) message → others ≡ drop (length message / 4 * 4) message
    → after_bytes table middle (others ++ []) ≡ after_bytes table 0 (concat words ++ (others ++ []))
    → after_bytes table register [] ≡ after_bytes table middle (others ++ [])
    → register ≡ after_bytes table 0 message
unfolding after_bytes
message_read table message others words middle register are_words are_others prefix back =
    let joined : concat words ++ (others ++ []) ≡ message = rw (append-nil others, are_words, are_others) (chunks_joined 4 (length message / 4) message) in
    back ∙ prefix ∙ ap (after_bytes table 0) joined

-- what is written of the register after a message is its remainder
pub written_remainder : (generator message parity others : List ℕ) (tables words : List (List ℕ)) (middle register size : ℕ)
    → 0 < size → size ≤ 16 → length generator ≡ size → AreTables generator tables → All IsByte message
    → words ≡ first_chunks 4 (length message / 4) message → others ≡ drop (length message / 4 * 4) message
    → after_bytes (get_or tables 0 []) middle (others ++ []) ≡ after_bytes (get_or tables 0 []) 0 (concat words ++ (others ++ []))
    → after_bytes (get_or tables 0 []) register [] ≡ after_bytes (get_or tables 0 []) middle (others ++ [])
    → parity ≡ take size (register_bytes 16 register) → IsRemainder generator message parity
written_remainder generator message parity others tables words middle register size some fits long are bytes are_words are_others prefix back written =
    let table = get_or tables 0 [] in
    let read : register ≡ after_bytes table 0 message = message_read table message others words middle register are_words are_others prefix back in
    let held = HoldsRemainder-bytes generator [] table message 0 (omega arith) bytes are.words (omega arith) are.multiples (HoldsRemainder-start generator (omega arith)) in
    rw (written, read, ← long) held.remainder
