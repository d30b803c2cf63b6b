-- What a host with a secret and its client send first: the host a challenge, then the client its proof and a challenge, then the host its proof.
use Rattle.std.specs.Prelude.{◌≡◌, ℕ, List, ◌++◌, codes, length}
use Rattle.hex.specs.Hex.{encode_lower}
use Rattle.fb_secret.specs.Hmac.{hmac_sha256}

-- what each proves, by its role and both challenges
abbrev pub client_message : (host client : List ℕ) → List ℕ
client_message host client = codes "client" ++ (host ++ client)

abbrev pub host_message : (host client : List ℕ) → List ℕ
host_message host client = codes "host" ++ (host ++ client)

-- the proof, in hexadecimal
abbrev pub proof : (secret message : List ℕ) → List ℕ
proof secret message = encode_lower (hmac_sha256 secret message)

-- {"challenge":"HOST"}
abbrev pub challenge_line : List ℕ → List ℕ
challenge_line host = codes "{\"challenge\":\"" ++ host ++ codes "\"}\n"

-- {"proof":"PROOF","challenge":"CLIENT"}
abbrev pub client_line : (secret host client : List ℕ) → List ℕ
client_line secret host client =
    codes "{\"proof\":\"" ++ proof secret (client_message host client) ++ codes "\",\"challenge\":\"" ++ client ++ codes "\"}\n"

-- {"proof":"PROOF"}
abbrev pub host_line : (secret host client : List ℕ) → List ℕ
host_line secret host client = codes "{\"proof\":\"" ++ proof secret (host_message host client) ++ codes "\"}\n"

-- the line proves the secret, for this challenge of the host, and has this challenge of the client, of 64 bytes
abbrev pub Proves : (secret host line client : List ℕ) → Type 0
Proves secret host line client = (length client ≡ 64) × (line ≡ client_line secret host client)

-- the line proves nothing
abbrev pub IsForeign : (secret host line : List ℕ) → Type 0
IsForeign secret host line = (client : List ℕ) → ¬ Proves secret host line client

-- the line proves the secret, and this is the host's proof for it
abbrev pub IsAnswer : (secret host line answer : List ℕ) → Type 0
IsAnswer secret host line answer = (client : List ℕ) × Proves secret host line client × (answer ≡ host_line secret host client)
