-- Codes for contents and for marks, by which values that hold them are told apart.
use Rattle.std.specs.Prelude.{◌≡◌, ◌⊎◌, ℕ, List, refl}
use Rattle.std.specs.Coded.{Coded, code_by, coded_ℕ, coded_list, coded⊎, coded_bool}
use Rattle.std.proofs.Common.{inl, inr, Bool, true, false}
use Rattle.hub_tree.specs.declared.contents.Contents.{Contents}
use Rattle.hub_tree.specs.declared.contents.Contents.TheVariants as contents
use Rattle.hub_tree.specs.declared.contents.Mark.{Mark}
use Rattle.hub_tree.specs.declared.contents.Mark.TheVariants as mark

abbrev pub Stored : Type 0
Stored = List ℕ ⊎ Bool

abbrev pub coded_form : Contents → Stored
coded_form (contents.File bytes) = inl bytes
coded_form contents.Directory = inr true
coded_form contents.Absent = inr false

abbrev pub contents_from : Stored → Contents
contents_from (inl bytes) = contents.File bytes
contents_from (inr true) = contents.Directory
contents_from (inr false) = contents.Absent

pub contents_from-stored_contents : (c : Contents) → contents_from (coded_form c) ≡ c
contents_from-stored_contents (contents.File bytes) = refl
contents_from-stored_contents contents.Directory = refl
contents_from-stored_contents contents.Absent = refl

abbrev pub coded_contents : Coded Contents
coded_contents =
    code_by Stored
    (coded⊎
    (coded_list coded_ℕ) coded_bool) coded_form contents_from contents_from-stored_contents

abbrev pub stored_mark : Mark → Stored
stored_mark (mark.File digest) = inl digest
stored_mark mark.Directory = inr true
stored_mark mark.Absent = inr false

abbrev pub decoded_mark : Stored → Mark
decoded_mark (inl digest) = mark.File digest
decoded_mark (inr true) = mark.Directory
decoded_mark (inr false) = mark.Absent

pub mark_from-stored_mark : (m : Mark) → decoded_mark (stored_mark m) ≡ m
mark_from-stored_mark (mark.File digest) = refl
mark_from-stored_mark mark.Directory = refl
mark_from-stored_mark mark.Absent = refl

abbrev pub coded_mark : Coded Mark
coded_mark =
    code_by Stored
    (coded⊎ (coded_list coded_ℕ) coded_bool) stored_mark decoded_mark mark_from-stored_mark
