-- A code for archives, by which values that hold them are told apart.
use Rattle.std.specs.FinMap as fin
use Rattle.std.specs.Coded.{Coded, coded_ℕ, coded_list}
use Rattle.hub_tree.specs.laws.Coded.{coded_mark}
use Rattle.hub_tree.specs.Tree.{Archive}

abbrev pub coded_archive : Coded Archive
coded_archive = fin.code (coded_list (coded_list coded_ℕ)) coded_mark
