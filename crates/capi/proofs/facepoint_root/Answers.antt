-- `capi::facepoint_root` is the leaf's root.
use borrow.Author.Rules.{rules}
use Rattle.capi.proofs.facepoint_root.Goals as goal

pub returns : goal.returns
returns c = search rules
