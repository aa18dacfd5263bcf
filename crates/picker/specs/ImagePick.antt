-- Document 01, "image pick (sheet, phase, image list of f64)": the table, read top to bottom, and the last image, "as
-- the host gives it".
use Rattle.std.specs.Prelude.{Bool, not, ◌||◌, List, [], ◌∷◌, ◌++◌, ℕ, ◌+◌, ◌*◌, eqb, Float, length}
use Rattle.std.specs.Float.{binary64}
use Rattle.std.specs.Float.Ieee.{of_bits}
use Rattle.sheet.specs.Content.{Sheet}
use Rattle.answers.specs.Lists.{any_of}
use Rattle.sheet.specs.Layout.{sheet_of}
use Rattle.answers.specs.Outcome.{Check, check, first, Numbers, settled}
use Rattle.answers.specs.Limits.{beyond}
use Rattle.sheet.specs.Checks.{layout_checks, content_checks}
use Rattle.chart.specs.Chart.{chosen, frame_checks}
use Rattle.frame.specs.Framing.{point_count, phase_wrong}
use Rattle.physical.specs.Images.{ring_images}
use Rattle.physical.specs.Physical.{too_close}
use Rattle.picker.specs.Answered.{answered_at}
use Rattle.picker.specs.Images.{last_image}

-- 2^30
abbrev pub image_limit : Float
image_limit = of_bits binary64 0x41D0000000000000

-- 10: "image list not 3 × (points + 1) long, or an entry not finite or above 2^30 in magnitude"
unfoldable pub images_wrong : Sheet → List Float → Bool
images_wrong s images = not (eqb (length images) (3 * (point_count s + 1))) || any_of (beyond image_limit) images

unfoldable pub image_close : Sheet → List Float → Bool
unfolding last_image
image_close s images = too_close s (last_image s images) (ring_images s.rings images)

unfoldable pub image_checks : List ℕ → ℕ → List Float → List Check
unfolding images_wrong image_close
image_checks s phase images =
    layout_checks s
    ++ content_checks (sheet_of s)
    ++ check 8 (phase_wrong (sheet_of s) phase)
    ∷ check 10 (images_wrong (sheet_of s) images)
    ∷ frame_checks (sheet_of s) phase
    ++ check 15 (image_close (sheet_of s) images)
    ∷ []

unfoldable pub image_pick_of : List ℕ → ℕ → List Float → Numbers
unfolding image_checks answered_at last_image
image_pick_of s phase images = settled (first (image_checks s phase images)) (answered_at (last_image (sheet_of s) images) (chosen (sheet_of s) phase))
