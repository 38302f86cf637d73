-- What a borrowed line asks for.
use Rattle.std.specs.Prelude.{ℕ, List}
use denote.Ref.{Bor}
use Rattle.hub_include.specs.declared.word.Asked.{Asked}

abbrev pub of_bytes : Asked (Bor (List ℕ)) → Asked (List ℕ)
of_bytes a = record { has_ending = a.has_ending; may_be_missing = a.may_be_missing; names = a.names.now }
