-- What a call's answer is, a check at a time: the numbers of the refusals that calls give by name, and the laws by
-- which the check finds that a call meets its definition.
use mathlib.Core.Path.{◌≡◌, refl}
use Rattle.answers.specs.Outcome.{number_of}
use Rattle.answers.specs.declared.refusal.Refusal.TheVariants.{Length, Phase, Images, TooClose, Argument, Sides, Gap, NoInterior, Corners, NoneServes, Heights, MiddleUnclear, NotFinite}
use Rattle.answers.proofs.Papers.{paper_ok, paper_err}
use Rattle.answers.proofs.Settled.{settled_here, settled_later, settled_empty}

pub number_length : number_of Length ≡ 1
unfolding number_of
number_length = refl

pub number_phase : number_of Phase ≡ 8
unfolding number_of
number_phase = refl

pub number_images : number_of Images ≡ 10
unfolding number_of
number_images = refl

pub number_too_close : number_of TooClose ≡ 15
unfolding number_of
number_too_close = refl

pub number_argument : number_of Argument ≡ 16
unfolding number_of
number_argument = refl

pub number_sides : number_of Sides ≡ 17
unfolding number_of
number_sides = refl

pub number_gap : number_of Gap ≡ 18
unfolding number_of
number_gap = refl

pub number_no_interior : number_of NoInterior ≡ 19
unfolding number_of
number_no_interior = refl

pub number_corners : number_of Corners ≡ 20
unfolding number_of
number_corners = refl

pub number_none_serves : number_of NoneServes ≡ 21
unfolding number_of
number_none_serves = refl

pub number_heights : number_of Heights ≡ 22
unfolding number_of
number_heights = refl

pub number_middle_unclear : number_of MiddleUnclear ≡ 23
unfolding number_of
number_middle_unclear = refl

pub number_not_finite : number_of NotFinite ≡ 24
unfolding number_of
number_not_finite = refl

pub ruleset calls = (paper_ok, paper_err, number_length, number_phase, number_images, number_too_close, number_argument, number_sides, number_gap, number_no_interior, number_corners, number_none_serves, number_heights, number_middle_unclear, number_not_finite, settled_here, settled_later, settled_empty)
