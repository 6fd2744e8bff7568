-- Laws of `list_of`: how it is made, its count and its items.
use Prim.Native.Nat.{ℕ, zero, suc, ◌<◌}
use mathlib.Core.Path.{◌≡◌, refl}
use mathlib.Core.List.{List, [], ◌∷◌}
use lib.ListN.{length, get_or}
use native.Mathlib.Omega.{arith}
use Rattle.timing.specs.Ranges.{buffers_max}
use Rattle.answers.specs.declared.records.BufferRecord.{BufferRecord}
use Rattle.answers.specs.declared.records.BufferList.{BufferList}
use Rattle.answers.specs.Lists.{no_buffer, list_of}

pub list-is : (ys : List BufferRecord) (b₀ b₁ b₂ b₃ b₄ b₅ : BufferRecord) → b₀ ≡ get_or ys 0 no_buffer → b₁ ≡ get_or ys 1 no_buffer → b₂ ≡ get_or ys 2 no_buffer → b₃ ≡ get_or ys 3 no_buffer → b₄ ≡ get_or ys 4 no_buffer → b₅ ≡ get_or ys 5 no_buffer → ◌≡◌ {A = BufferList} (record { n = length ys; items = b₀ ∷ b₁ ∷ b₂ ∷ b₃ ∷ b₄ ∷ b₅ ∷ [] }) (list_of ys)
unfolding list_of
list-is ys b₀ b₁ b₂ b₃ b₄ b₅ e₀ e₁ e₂ e₃ e₄ e₅ =
    λ i. record { n = length ys; items = e₀ i ∷ e₁ i ∷ e₂ i ∷ e₃ i ∷ e₄ i ∷ e₅ i ∷ [] }

pub count_of : (ys : List BufferRecord) → (list_of ys).n ≡ length ys
unfolding list_of
count_of ys = refl

pub item_of : (ys : List BufferRecord) (i : ℕ) → i < buffers_max → get_or (list_of ys).items i no_buffer ≡ get_or ys i no_buffer
unfolding list_of
item_of ys zero h = refl
item_of ys (suc zero) h = refl
item_of ys (suc (suc zero)) h = refl
item_of ys (suc (suc (suc zero))) h = refl
item_of ys (suc (suc (suc (suc zero)))) h = refl
item_of ys (suc (suc (suc (suc (suc zero))))) h = refl
item_of ys (suc (suc (suc (suc (suc (suc i)))))) h = absurd (omega arith)
