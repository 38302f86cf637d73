use Rattle.hub_path.specs.Path.{text_of}
use Rattle.hub_reach.specs.Stage.{profile_alternatives}
use Rattle.hub_reach.proofs.Alike.{goes-on, follows, characters-alike, reached-alike, allowed-alike}
use Rattle.hub_reach.proofs.Choices.{covers-profile}
use Rattle.hub_reach.proofs.laws.stages_go_on_alike.Goals as goal

pub returns-clause-same : goal.returns-clause-same
returns-clause-same c = λ P t u x facts.
    goes-on c.choices_match_what_their_specification_does.ensures c.paths_match_their_text.ensures.path c.what_is_kept_tells_each_match.ensures P t u x facts
    (λ ls. c.what_is_kept_goes_on_alike.ensures.same ls t u x)

pub returns-clause-followed : goal.returns-clause-followed
returns-clause-followed c = λ P t u v facts. follows P t u v (λ r q x. returns-clause-same c P r q x facts)

pub returns-clause-reached : goal.returns-clause-reached
returns-clause-reached c = λ P t u facts.
    reached-alike c.choices_match_what_their_specification_does.ensures c.paths_match_their_text.ensures.path c.what_is_kept_tells_each_match.ensures P t u facts

pub returns-clause-allowed : goal.returns-clause-allowed
returns-clause-allowed c = λ P t u r verb facts h path. allowed-alike c.choices_match_what_their_specification_does.ensures c.what_is_kept_tells_each_match.ensures P t u r verb h path

pub returns-clause-classes : goal.returns-clause-classes
returns-clause-classes c = λ P ms t x y k al says class_x class_y text_x text_y.
    let covered = covers-profile ms P (c.choices_mention_what_their_specification_does.ensures ms)
    (λ p h. c.paths_mention_their_characters.ensures ms (text_of p) (c.texts_mention_what_their_names_do.ensures ms p al h)) says in
    characters-alike P t x y text_x text_y (c.classes_are_alike.ensures ms x y k 47 class_x class_y al.slash) (c.classes_are_alike.ensures ms x y k 46 class_x class_y al.dot)
    (c.what_is_kept_goes_on_alike.ensures.classes ms (profile_alternatives P) t x y k al covered class_x class_y)
