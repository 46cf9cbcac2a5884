-- The proof of `home_of_id` in src/home.rt.
use Rattle.std.proofs.Common.{◌∙◌, ℕ, ◌+◌, ◌%◌, ap, sym, arith}
use Rattle.std.specs.Option.{option_map}
use Rattle.dvd_assemble.specs.Home.{block_and_frame}
use Rattle.dvd_assemble.proofs.Homes.{before_is, home_there, none_after, none_below, none_there, only_there}
use Rattle.dvd_assemble.proofs.home.home_of_id.Goals as goal
use Rattle.dvd_assemble.proofs.home.home_of_id.Goals.{else-k-blocks-via-then-k-blocks+else-has_frame, else-k-blocks-via-else-k-blocks}

pub returns-then-before-blocks-clause-home : goal.returns-then-before-blocks-clause-home
returns-then-before-blocks-clause-home c =
    let layout = c.args.layout.now in
    let before = before_is layout c.args.id c.layer.result c.blocks_before-before.result c.blocks_before-before.ensures c.layer.ensures in
    sym (ap (option_map block_and_frame)
    (none_after layout c.args.id c.blocks_before-before.result before (omega (arith, c.if-before-blocks.true, c.blocks-blocks.ensures))))

pub returns-in_err-offset-clause-home : goal.returns-in_err-offset-clause-home
returns-in_err-offset-clause-home c =
    let layout = c.args.layout.now in
    let before = before_is layout c.args.id c.layer.result c.blocks_before-before.result c.blocks_before-before.ensures c.layer.ensures in
    c.from_residual.ensures ∙ sym (ap (option_map block_and_frame)
    (none_below layout c.args.id c.blocks_before-before.result c.plan-first.result before c.plan-first.ensures
    (λ least. c.in_err-offset.ensures (omega (arith, least, c.number.ensures)))))

pub returns-then-has_frame-clause-home : goal.returns-then-has_frame-clause-home
returns-then-has_frame-clause-home c =
    let layout = c.args.layout.now in
    let before = before_is layout c.args.id c.layer.result c.blocks_before-before.result c.blocks_before-before.ensures c.layer.ensures in
    let rest = c.in_ok-offset.ensures in
    let k : ℕ = c.blocks_before-before.result + c.from.result in
    let f : ℕ = c.in_ok-offset.offset % 16 in
    sym (home_there layout c.args.id k f (omega (arith, c.if-k-blocks.true, c.blocks-blocks.ensures)) (omega arith) (sym c.if-has_frame.ensures)
    (λ n at. only_there layout c.args.id c.blocks_before-before.result c.in_ok-offset.offset c.plan-first.result before c.plan-first.ensures
    (omega (arith, rest.0, c.number.ensures)) (omega (arith, rest.1, c.number.ensures)) n at ∙ omega (arith, c.from.ensures)))

pub returns-else-k-blocks-clause-home : goal.returns-else-k-blocks-clause-home
returns-else-k-blocks-clause-home c =
    let layout = c.args.layout.now in
    let before = before_is layout c.args.id c.layer.result c.blocks_before-before.result c.blocks_before-before.ensures c.layer.ensures in
    let rest = c.in_ok-offset.ensures in
    let k : ℕ = c.blocks_before-before.result + c.from.result in
    let f : ℕ = c.in_ok-offset.offset % 16 in
    sym (ap (option_map block_and_frame) (none_there layout c.args.id k f
    (λ n at. only_there layout c.args.id c.blocks_before-before.result c.in_ok-offset.offset c.plan-first.result before c.plan-first.ensures
    (omega (arith, rest.0, c.number.ensures)) (omega (arith, rest.1, c.number.ensures)) n at ∙ omega (arith, c.from.ensures))
    (λ within. elim c.else-k-blocks.branch [
      | else-k-blocks-via-then-k-blocks+else-has_frame w ↦ sym w.if-has_frame.ensures
      | else-k-blocks-via-else-k-blocks w ↦ absurd (omega (arith, within, w.if-k-blocks.false, c.blocks-blocks.ensures))
    ]) (omega arith)))
