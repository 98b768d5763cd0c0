-- The lacing values of one packet (RFC 3533, section 6): values 255, and then one below 255.
use Rattle.std.specs.Prelude.{◌≡◌, ℕ, ◌<◌, List, [], ◌∷◌}

abbrev pub EndsPacket : List ℕ → Type 0
EndsPacket [] = ⊥
EndsPacket (value ∷ []) = value < 255
EndsPacket (value ∷ next ∷ values) = (value ≡ 255) × EndsPacket (next ∷ values)
