-- What one step of the line readers takes.
use Rattle.std.proofs.Common.{◌≡◌, ℕ, List, [], ◌∷◌}
use Rattle.std.specs.Prelude.{Option, MatchOption, chars}
use denote.Ref.{Bor}
use Rattle.hub_text.specs.declared.line.Line.{Line}
use Rattle.hub_text.specs.Lines.{lines_of}

-- A borrowed line of bytes, and of a text, as the list of its bytes and of its characters.
abbrev pub of_bytes : Line (Bor (List ℕ)) → Line (List ℕ)
of_bytes l = record { text = l.text.now; is_ended = l.is_ended }

abbrev pub of_text : Line (Bor (List ℕ)) → Line (List ℕ)
of_text l = record { text = chars l.text.now; is_ended = l.is_ended }

-- A step at a list s of bytes, or of characters, gives the first of its lines and leaves t, which
-- has the others; at no bytes it gives nothing.
abbrev pub Takes : (Line (Bor (List ℕ)) → Line (List ℕ)) → List ℕ
    → Option (Line (Bor (List ℕ))) → List ℕ → Type 0
Takes of s r t = MatchOption r (s ≡ []) (λ l. lines_of s ≡ of l ∷ lines_of t)
