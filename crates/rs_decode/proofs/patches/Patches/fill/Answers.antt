-- The proof of `fill` in src/patches.rt.
use Rattle.std.proofs.Common.{◌≡◌, ◌<◌, ℕ, ◌∙◌, length, take, sym, ap, subst, arith}
use Rattle.coding.specs.Field.{alpha, power}
use Rattle.coding.specs.Filling.{AgreeUnmarked, marked}
use Rattle.coding.specs.Rows.{column}
use Rattle.coding.specs.Words.{value}
use Rattle.rs_decode.specs.Patches.{patched}
use Rattle.rs_decode.proofs.Fillings.{AgreeUnmarked-patched}
use Rattle.rs_decode.proofs.Marks.{place_of_mark-inside}
use Rattle.rs_decode.proofs.patches.Patches.fill.Goals as goal

pub add_to-requires-clause-inside : goal.add_to-requires-clause-inside
add_to-requires-clause-inside g c = λ i below.
    let erasures = c.args.erasures.now in
    let within = subst (λ (n : ℕ). i < n) c.places-places.ensures.count below in
    omega (arith, c.places-places.ensures.places i within, place_of_mark-inside erasures.marks i within, c.told-word, erasures.size)

pub returns-clause-filled : goal.returns-clause-filled
returns-clause-filled g c = λ _.
    let erasures = c.args.erasures.now in
    let word = c.args.word.now in
    let bytes = take (marked erasures.marks) (column c.args.self.now.bytes c.args.n) in
    let alike : length word ≡ length erasures.marks = c.told-word ∙ sym erasures.size in
    let filled_is : c.add_to.new.word ≡ patched word erasures.marks bytes =
    c.add_to.ensures erasures.marks (sym alike) (sym c.places-places.ensures.count) c.places-places.ensures.places in
    record {
      codeword = record {
        size = omega (arith, c.add_to.auto.word, c.told-word);
        bytes = c.prove_bytes.ensures;
        vanishes = λ k below. ap (λ w. value w (power alpha k)) filled_is ∙ c.requires.completes c.if-self-n-ne0.false k below;
      };
      agrees = subst (AgreeUnmarked erasures.marks word) (sym filled_is) (AgreeUnmarked-patched word erasures.marks bytes alike);
      within = omega (arith, c.places-places.ensures.count);
    }
