-- A text that three texts are appended to, the last one if memory lasts.
use Rattle.std.proofs.Common.{◌≡◌, ◌∙◌, ◌++◌, ℕ, List, Result, Ok, Err, OnOk, sym, ap, append_assoc}

pub three : {A E : Type 0} (r : Result A E) (s a b c first second third last : List ℕ) → a ≡ s ++ first → b ≡ a ++ second → OnOk r (c ≡ b ++ third) → third ≡ last
    → OnOk r (c ≡ s ++ ((first ++ second) ++ last))
three (Ok x) s a b c first second third last e f g h =
    g ∙ ap (λ t. b ++ t) h ∙ ap (λ t. t ++ last) (f ∙ ap (λ t. t ++ second) e) ∙ append_assoc (s ++ first) second last ∙ append_assoc s first (second ++ last) ∙ ap (λ t. s ++ t) (sym (append_assoc first second last))
three (Err x) s a b c first second third last e f g h = tt
