-- Connections of registers, as sums: what two registers that generate a list have to do with each other.
use Rattle.std.proofs.Common.{◌≡◌, ℕ, ◌+◌, ◌-◌, ◌<◌, ◌≤◌, List, length, get_or, refl, sym, ap, ◌∙◌, arith}
use Rattle.coding.specs.Field.{plus, product}
use Rattle.gf_field.proofs.FieldLaws.{one-product, product-assoc, product-byte, product-comm, product-zero, zero-product, plus-product}
use Rattle.rs_code.specs.Inner.Polynomials.{sum_of, mul_scalar}
use Rattle.rs_code.proofs.Values.{get_or-sum_of, get_or-mul_scalar}
use Rattle.rs_decode.specs.Register.{total, connection}
use Rattle.rs_decode.proofs.Totals.{total-exchange, total-first, total-byte, total-later, total-longer, total-plus, total-product, total-same, total-zeros}

-- a connection, written out
pub connection-total : (len : ℕ) (taps seq : List ℕ) (n : ℕ)
    → connection len taps seq n ≡ total (len + 1) (λ i. product (get_or taps i 0) (get_or seq (n - i) 0))
unfolding connection
connection-total len taps seq n = refl

-- a connection is a byte
pub connection-byte : (len : ℕ) (taps seq : List ℕ) (n : ℕ) → connection len taps seq n < 256
unfolding connection
connection-byte len taps seq n =
    total-byte (len + 1) (λ i. product (get_or taps i 0) (get_or seq (n - i) 0)) (λ i. product-byte (get_or taps i 0) (get_or seq (n - i) 0))

-- it reads the first len + 1 taps alone
pub connection-same : (len : ℕ) (taps others seq : List ℕ) (n : ℕ) → ((i : ℕ) → i ≤ len → get_or taps i 0 ≡ get_or others i 0)
    → connection len taps seq n ≡ connection len others seq n
unfolding connection
connection-same len taps others seq n same =
    total-same (len + 1) (λ i. product (get_or taps i 0) (get_or seq (n - i) 0)) (λ i. product (get_or others i 0) (get_or seq (n - i) 0))
    (λ i below. ap (λ x. product x (get_or seq (n - i) 0)) (same i (omega arith)))

-- further taps that are 0 add nothing
pub connection-longer : (len longer : ℕ) (taps seq : List ℕ) (n : ℕ) → len ≤ longer → ((c : ℕ) → len < c → get_or taps c 0 ≡ 0)
    → connection longer taps seq n ≡ connection len taps seq n
unfolding connection
connection-longer len longer taps seq n within zeros =
    let f : ℕ → ℕ = λ i. product (get_or taps i 0) (get_or seq (n - i) 0) in
    let parts : longer + 1 ≡ len + 1 + (longer - len) = omega arith in
    ap (λ k. total k f) parts
    ∙ total-longer (len + 1) (longer - len) f (λ i above. ap (λ x. product x (get_or seq (n - i) 0)) (zeros i (omega arith)) ∙ zero-product (get_or seq (n - i) 0))

-- first taps that are 0: with them left out, the connection is that of an earlier place
pub connection-later : (len first : ℕ) (taps others seq : List ℕ) (n : ℕ) → ((i : ℕ) → i < first → get_or taps i 0 ≡ 0)
    → ((i : ℕ) → i ≤ len → get_or taps (first + i) 0 ≡ get_or others i 0)
    → connection (first + len) taps seq (first + n) ≡ connection len others seq n
unfolding connection
connection-later len first taps others seq n zeros same =
    let f : ℕ → ℕ = λ i. product (get_or taps i 0) (get_or seq (first + n - i) 0) in
    let parts : first + len + 1 ≡ first + (len + 1) = omega arith in
    ap (λ k. total k f) parts
    ∙ total-later first (len + 1) f (λ i below. ap (λ x. product x (get_or seq (first + n - i) 0)) (zeros i below) ∙ zero-product (get_or seq (first + n - i) 0))
    ∙ total-same (len + 1) (λ i. f (first + i)) (λ i. product (get_or others i 0) (get_or seq (n - i) 0)) (λ i below.
    let place : first + n - (first + i) ≡ n - i = omega arith in
    ap (λ x. product x (get_or seq (first + n - (first + i)) 0)) (same i (omega arith)) ∙ ap (λ k. product (get_or others i 0) (get_or seq k 0)) place)

-- the connection of a sum of taps
pub connection-sum_of : (len : ℕ) (taps others seq : List ℕ) (n : ℕ) → length taps ≡ length others
    → connection len (sum_of taps others) seq n ≡ plus (connection len taps seq n) (connection len others seq n)
unfolding connection
connection-sum_of len taps others seq n same =
    let s : ℕ → ℕ = λ i. get_or seq (n - i) 0 in
    let f : ℕ → ℕ = λ i. product (get_or taps i 0) (s i) in
    let g : ℕ → ℕ = λ i. product (get_or others i 0) (s i) in
    total-same (len + 1) (λ i. product (get_or (sum_of taps others) i 0) (s i)) (λ i. plus (f i) (g i))
    (λ i below. ap (λ x. product x (s i)) (get_or-sum_of taps others i same) ∙ plus-product (get_or taps i 0) (get_or others i 0) (s i))
    ∙ total-plus (len + 1) f g

-- and of a multiple
pub connection-mul_scalar : (len factor : ℕ) (taps seq : List ℕ) (n : ℕ)
    → connection len (mul_scalar factor taps) seq n ≡ product factor (connection len taps seq n)
unfolding connection
connection-mul_scalar len factor taps seq n =
    let s : ℕ → ℕ = λ i. get_or seq (n - i) 0 in
    let f : ℕ → ℕ = λ i. product (get_or taps i 0) (s i) in
    total-same (len + 1) (λ i. product (get_or (mul_scalar factor taps) i 0) (s i)) (λ i. product factor (f i))
    (λ i below. ap (λ x. product x (s i)) (get_or-mul_scalar factor taps i) ∙ product-assoc factor (get_or taps i 0) (s i))
    ∙ total-product (len + 1) factor f

-- a factor of a product to the front
swapped : (a b s : ℕ) → product (product a b) s ≡ product b (product a s)
swapped a b s = ap (λ x. product x s) (product-comm a b) ∙ product-assoc b a s

-- a register's connections are 0 at the places below n that it reaches
abbrev pub Makes : ℕ → List ℕ → List ℕ → ℕ → Type 0
Makes len taps seq n = (k : ℕ) → len ≤ k → k < n → connection len taps seq k ≡ 0

-- Massey's lemma. Where two registers of lengths that together are at most n generate a list up to place n, and one of
-- them generates the number at n too, the other does: the table of the products of a tap of each and a number has the
-- sum 0 by its rows, and its columns are 0 but for the first, which is the connection at n.
pub connections-agree : (len other n : ℕ) (taps others seq : List ℕ) → len + other ≤ n → get_or others 0 0 ≡ 1 → Makes len taps seq n
    → Makes other others seq (n + 1) → connection len taps seq n ≡ 0
connections-agree len other n taps others seq short first makes others_make =
    let cell : ℕ → ℕ → ℕ = λ i j. product (product (get_or taps i 0) (get_or others j 0)) (get_or seq (n - i - j) 0) in
    let row : (i : ℕ) → i < len + 1 → total (other + 1) (cell i) ≡ 0 = λ i below.
    total-same (other + 1) (cell i) (λ j. product (get_or taps i 0) (product (get_or others j 0) (get_or seq (n - i - j) 0)))
    (λ j within. product-assoc (get_or taps i 0) (get_or others j 0) (get_or seq (n - i - j) 0))
    ∙ total-product (other + 1) (get_or taps i 0) (λ j. product (get_or others j 0) (get_or seq (n - i - j) 0))
    ∙ ap (product (get_or taps i 0)) (sym (connection-total other others seq (n - i)) ∙ others_make (n - i) (omega arith) (omega arith))
    ∙ product-zero (get_or taps i 0) in
    let column : (j : ℕ) → total (len + 1) (λ i. cell i j) ≡ product (get_or others j 0) (connection len taps seq (n - j)) = λ j.
    total-same (len + 1) (λ i. cell i j) (λ i. product (get_or others j 0) (product (get_or taps i 0) (get_or seq (n - j - i) 0))) (λ i below.
    let place : n - i - j ≡ n - j - i = omega arith in
    swapped (get_or taps i 0) (get_or others j 0) (get_or seq (n - i - j) 0)
    ∙ ap (λ k. product (get_or others j 0) (product (get_or taps i 0) (get_or seq k 0))) place)
    ∙ total-product (len + 1) (get_or others j 0) (λ i. product (get_or taps i 0) (get_or seq (n - j - i) 0))
    ∙ ap (product (get_or others j 0)) (sym (connection-total len taps seq (n - j))) in
    let here : n - 0 ≡ n = omega arith in
    sym (one-product (connection len taps seq n) (connection-byte len taps seq n))
    ∙ ap (λ x. product x (connection len taps seq n)) (sym first)
    ∙ ap (λ k. product (get_or others 0 0) (connection len taps seq k)) (sym here)
    ∙ sym (column 0)
    ∙ sym (total-first other (λ j. total (len + 1) (λ i. cell i j)) (λ j above within.
    column j ∙ ap (product (get_or others j 0)) (makes (n - j) (omega arith) (omega arith)) ∙ product-zero (get_or others j 0)))
    ∙ sym (total-exchange (len + 1) (other + 1) cell)
    ∙ total-zeros (len + 1) (λ i. total (other + 1) (cell i)) row
