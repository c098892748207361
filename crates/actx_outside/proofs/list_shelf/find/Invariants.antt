use Rattle.std.proofs.Common.{◌≡◌, drop}
use Rattle.actx_outside.specs.Files.{contents_of, named}
use Rattle.actx_outside.proofs.list_shelf.find.Given as goal

-- the file is among the ones that are left, if anywhere
abbrev pub invariant-loop-file : goal.invariant-loop-file
invariant-loop-file l = contents_of (named (drop l.file-index l.files)) l.name ≡ contents_of (named l.files) l.name
