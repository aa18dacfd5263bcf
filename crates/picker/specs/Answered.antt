-- Document 01, "All three report the chosen point's rule 8 clearance in u and v": what a pick answers.
use Rattle.answers.specs.Outcome.{Numbers}
use Rattle.space.specs.declared.vectors.Place.{Place}
use Rattle.search.specs.declared.candidate.Candidate.{Candidate}

unfoldable pub answered_at : Place → Candidate → Numbers
answered_at p c = record { status = 0; x = p.x; y = p.y; z = p.z; clearance = c.clearance; count = c.count }
