-- Document 01, "Gauging checks": K1 to K12 hold as one theorem on the definitions, K4 as document 02, Req 01, has it. Assumes nothing.
use Rattle.listing.proofs.Checks as marker
use Rattle.heading.proofs.Checks as heading
use Rattle.anchor.proofs.Checks as anchor
use Rattle.link.proofs.Checks as link
use Rattle.chains.proofs.Checks as fragment
use Rattle.assembled.proofs.Checks as assembly

-- K1 and K6; K2; K3 and K4; K5 and K12's target; K7 to K9; K10 to K12
pub checks : marker.Checks × (heading.Checks × (anchor.Checks × (link.Checks × (fragment.Checks × assembly.Checks))))
checks = (marker.checks, (heading.checks, (anchor.checks, (link.checks, (fragment.checks, assembly.checks)))))
