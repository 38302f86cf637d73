-- Where a sight is told, and how sights are told apart.
use Rattle.std.specs.Prelude.{false, ℕ, List, []}
use Rattle.std.specs.Arc.{arc_value}
use Rattle.hub_tree.specs.Tree.{mark_of}
use Rattle.hub_tree.specs.declared.contents.Contents.TheVariants as contents
use Rattle.hub_reconcile.specs.Sight.{Sight}
use Rattle.hub_job.specs.declared.sight.Listing.{Listing}
use Rattle.hub_job.specs.declared.sight.Told.{Told}
use Rattle.hub_job.specs.declared.sight.Told.TheVariants as told

-- With a file there are no names and no others.
abbrev pub sight_of_file : List ℕ → Sight
sight_of_file bytes = record { mark = mark_of (contents.File bytes); names = []; others = false }

abbrev pub sight_of_listing : Listing → Sight
sight_of_listing l = record { mark = l.mark; names = l.names; others = l.others }

abbrev pub sight_of : Told → Sight
sight_of (told.File bytes) = sight_of_file bytes
sight_of (told.Listed listing) = sight_of_listing (arc_value listing)
