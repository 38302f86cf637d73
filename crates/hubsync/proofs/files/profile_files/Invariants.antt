use Rattle.std.proofs.Common.{◌≡◌, ◌++◌, drop, map}
use Rattle.hub_bundle.specs.declared.part.Kind.TheVariants.{Profile}
use Rattle.hubsync.specs.Bundled.{label_alone}
use Rattle.hubsync.specs.Named.{label_named}
use Rattle.hubsync.proofs.files.profile_files.Given as goal

abbrev pub invariant-loop-file : goal.invariant-loop-file
invariant-loop-file l =
    map label_named l.named.items ++ map (label_alone Profile) (map (λ f. f.now) (drop l.file-index l.files))
    ≡ map (label_alone Profile) (map (λ f. f.now) l.files)
