-- "Numbers answered": the number of each refusal, then the values it carries.
use Rattle.std.specs.Prelude.{ℕ, List, [], ◌∷◌}
use Rattle.stored.specs.declared.refusal.Refusal.{Refusal}
use Rattle.stored.specs.declared.refusal.Refusal.TheVariants.{Malformed, NoRoom, NotCanonical, SignaturesDiffer, UnknownElement, TypesDiffer, ImageMissing, ConflictingImages, RelationNotKept, NotAMap, OddPairs}

abbrev pub numbers : Refusal → List ℕ
numbers (Malformed model fault) = 10 ∷ model ∷ fault.offset ∷ []
numbers NoRoom = 11 ∷ []
numbers (NotCanonical model) = 12 ∷ model ∷ []
numbers SignaturesDiffer = 13 ∷ []
numbers (UnknownElement place side) = 14 ∷ place ∷ side ∷ []
numbers (TypesDiffer place) = 15 ∷ place ∷ []
numbers (ImageMissing e) = 16 ∷ e.0 ∷ []
numbers (ConflictingImages e) = 17 ∷ e.0 ∷ []
numbers (RelationNotKept k) = 18 ∷ k.0 ∷ []
numbers (NotAMap m) = 19 ∷ m ∷ []
numbers OddPairs = 20 ∷ []
