-- The proof of `look_up` in src/nibbles.rt.
use Rattle.rs_propose.proofs.MaskedPlaces.{SwzOk-masked}
use Rattle.rs_propose.proofs.nibbles.look_up.Goals as goal

pub swizzle : goal.swizzle
swizzle c = SwzOk-masked c.args.places c.fits-places
