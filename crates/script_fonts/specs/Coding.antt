-- Public: bytes as characters that stand for six bits each (ASS specification, "Embedded font/picture encoding").
use Rattle.std.specs.Prelude.{ℕ, ◌+◌, ◌-◌, ◌*◌, ◌/◌, ◌%◌, ◌&&◌, nat_le, Bool, List, [], ◌∷◌}

-- the characters `!` to the backtick stand for 0 to 63
abbrev pub is_coded : ℕ → Bool
is_coded c = nat_le 33 c && nat_le c 96

abbrev pub six_bits : ℕ → ℕ
six_bits c = c - 33

-- the number of 24 bits that four characters say, the highest bits first
abbrev pub number_coded : ℕ → ℕ → ℕ → ℕ → ℕ
number_coded a b c d = six_bits a * 262144 + six_bits b * 4096 + six_bits c * 64 + six_bits d

-- its three bytes
abbrev pub high_byte : ℕ → ℕ
high_byte n = n / 65536 % 256

abbrev pub middle_byte : ℕ → ℕ
middle_byte n = n / 256 % 256

abbrev pub low_byte : ℕ → ℕ
low_byte n = n % 256

-- Four characters say three bytes. At the end three say two and two say one: the bits of those that are missing are 0.
abbrev pub decoded : List ℕ → List ℕ
decoded (a ∷ b ∷ c ∷ d ∷ more) = high_byte (number_coded a b c d) ∷ middle_byte (number_coded a b c d) ∷ low_byte (number_coded a b c d) ∷ decoded more
decoded (a ∷ b ∷ c ∷ []) = high_byte (number_coded a b c 33) ∷ middle_byte (number_coded a b c 33) ∷ []
decoded (a ∷ b ∷ []) = high_byte (number_coded a b 33 33) ∷ []
decoded (a ∷ []) = []
decoded [] = []

-- ---- the other way round

-- the number of 24 bits of three bytes
abbrev pub number_of_bytes : ℕ → ℕ → ℕ → ℕ
number_of_bytes x y z = x * 65536 + y * 256 + z

-- the character of six bits of a number, those above the last `unit`
abbrev pub character_of : ℕ → ℕ → ℕ
character_of unit n = n / unit % 64 + 33

-- bytes as the specification writes them
abbrev pub coded : List ℕ → List ℕ
coded (x ∷ y ∷ z ∷ more) =
    character_of 262144 (number_of_bytes x y z) ∷ character_of 4096 (number_of_bytes x y z) ∷ character_of 64 (number_of_bytes x y z) ∷ character_of 1 (number_of_bytes x y z)
    ∷ coded more
coded (x ∷ y ∷ []) = character_of 262144 (number_of_bytes x y 0) ∷ character_of 4096 (number_of_bytes x y 0) ∷ character_of 64 (number_of_bytes x y 0) ∷ []
coded (x ∷ []) = character_of 262144 (number_of_bytes x 0 0) ∷ character_of 4096 (number_of_bytes x 0 0) ∷ []
coded [] = []
