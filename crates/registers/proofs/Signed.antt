-- What the checks of figures and of images rest on.
use Rattle.std.proofs.lemmas.Int.{to_z-of_z}
use Rattle.registers.specs.Bounds.{length-image_rows}

-- a signed number, passed on and read again
pub ruleset signed = (to_z-of_z)

-- the rows of an image, counted
pub ruleset counted = (length-image_rows)
