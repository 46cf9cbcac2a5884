-- The proof of `number` in src/values.rt.
use Rattle.std.proofs.Common.{◌∙◌, rules}
use Rattle.dvd_words.proofs.Numerals.{number_read}
use Rattle.dvd_words.proofs.values.number.Goals as goal

pub returns : goal.returns
returns c = c.ok.ensures.value ∙ number_read c.args.text.now c.from_str_radix.result (search rules) (search rules) (search rules) c.from_str_radix.ensures.value
