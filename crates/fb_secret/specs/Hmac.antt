-- HMAC (RFC 2104) with SHA-256 (FIPS 180-4) as its hash function H, which takes blocks of B = 64 bytes and gives L = 32 bytes.
use Rattle.std.specs.Prelude.{ℕ, ◌-◌, nat_lt, List, ◌++◌, length, map, replicate, bit_xor, if◌then◌else◌}
use Rattle.sha2.specs.Sha256.{sha256}

-- a key of more than B bytes is hashed first
abbrev pub short_key : List ℕ → List ℕ
short_key key = if nat_lt 64 (length key) then sha256 key else key

-- K: the key, followed by zeros up to B bytes
abbrev pub padded_key : List ℕ → List ℕ
padded_key key = short_key key ++ replicate (64 - length (short_key key)) 0

-- K XOR a pad, which is this byte B times
abbrev pub key_with_pad : List ℕ → ℕ → List ℕ
key_with_pad key pad = map (λ byte. bit_xor byte pad) (padded_key key)

-- H(K XOR opad, H(K XOR ipad, text))
unfoldable pub hmac_sha256 : (key text : List ℕ) → List ℕ
hmac_sha256 key text = sha256 (key_with_pad key 0x5C ++ sha256 (key_with_pad key 0x36 ++ text))
