-- A text is one thing of a message at the most.
use Rattle.std.proofs.Common.{◌≡◌, ℕ, ◌<◌, List, length, Result, Ok, Err, refl, sym, ap, ◌∙◌, subst, arith}
use Rattle.rx_types.specs.Domain.{Domain}
use Rattle.rx_graph.specs.Graph.{Graph}
use Rattle.rx_graph.specs.Fits.{Assigned, Fits, ReadsAs, length_of}
use Rattle.rx_graph.specs.Laws.{FitsHaveLength}
use Rattle.rx_values.specs.Reading.{value_of, Refusal}
use Rattle.rx_values.specs.Reading.{NotJson as NoJson, NotObject as NoObject, UnknownField as NoField, BadValue as NoValue, Duplicate as Twice}
use Rattle.rx_serial.specs.Laws.{AreBytes, NoneFits, HasOneRefusal, HasOneBuffer}
use Rattle.rx_serial.specs.Unfit.{IsUnfit}
use Rattle.rx_serial.specs.declared.fault.WriteFault.{WriteFault}
use Rattle.rx_serial.specs.declared.fault.WriteFault.TheVariants as fault
use Rattle.rx_encode.specs.declared.encoding.Encoded.{Encoded}
use Rattle.rx_encode.specs.declared.encoding.Encoded.TheVariants.{Bytes, NotJson, NotObject, UnknownField, BadValue, Duplicate, TooLong, Unsatisfied, Unused}
use Rattle.rx_encode.specs.Encoded.{IfValued, IsEncoded, IsSame, HasOneAnswer}
use Rattle.rx_encode.proofs.Valued.{orderly}

-- an answer without its places in memory
pub data Code : Type 0 where
  Refused : Refusal → Code
  Held : List ℕ → Code
  Long : Code
  Unfits : WriteFault → Code

abbrev pub code : Encoded → Code
code (Bytes bytes) = Held bytes.items
code NotJson = Refused NoJson
code NotObject = Refused NoObject
code (UnknownField key) = Refused (NoField key.items)
code (BadValue key) = Refused (NoValue key.items)
code (Duplicate key) = Refused (Twice key.items)
code TooLong = Long
code (Unsatisfied field reason) = Unfits (fault.Unsatisfied field reason)
code (Unused field) = Unfits (fault.Unused field)

same_from_code : (one other : Encoded) → code one ≡ code other → IsSame one other
same_from_code (Bytes a) (Bytes b) e = cc
same_from_code NotJson NotJson e = refl
same_from_code NotObject NotObject e = refl
same_from_code (UnknownField a) (UnknownField b) e = cc
same_from_code (BadValue a) (BadValue b) e = cc
same_from_code (Duplicate a) (Duplicate b) e = cc
same_from_code TooLong TooLong e = refl
same_from_code (Unsatisfied a r) (Unsatisfied b s) e = cc
same_from_code (Unused a) (Unused b) e = cc
same_from_code one other e = cc

err_ok : (e : Refusal) (x : List Assigned) → Err e ≡ Ok x → ⊥
err_ok e x h = cc

ok_same : (r : Result (List Assigned) Refusal) (x y : List Assigned) → r ≡ Ok x → r ≡ Ok y → y ≡ x
ok_same r x y h k = cc

err_same : (o : Result (List Assigned) Refusal) (r s : Refusal) → o ≡ Err r → o ≡ Err s → r ≡ s
err_same o r s h k = cc

module _ (domains : List Domain) (m : Graph) (none : NoneFits domains m) (refusal : HasOneRefusal domains m) (buffer : HasOneBuffer domains m) (long : FitsHaveLength domains m) where
  abbrev pub IsCoded : List ℕ → Code → Type 0
  IsCoded text (Refused r) = value_of domains m text ≡ Err r
  IsCoded text (Held bytes) = AreBytes bytes × IfValued domains m text (ReadsAs domains m bytes)
  IsCoded text Long = IfValued domains m text (λ values. 16777215 < length_of domains m values)
  IsCoded text (Unfits why) = IfValued domains m text (λ values. IsUnfit domains m values why)

  pub coded : (text : List ℕ) (e : Encoded) → IsEncoded domains m text e → IsCoded text (code e)
  coded text (Bytes bytes) h = h
  coded text NotJson h = h
  coded text NotObject h = h
  coded text (UnknownField key) h = h
  coded text (BadValue key) h = h
  coded text (Duplicate key) h = h
  coded text TooLong h = h
  coded text (Unsatisfied field reason) h = h
  coded text (Unused field) h = h

  not_both : (text : List ℕ) (r : Refusal) (values : List Assigned) → value_of domains m text ≡ Err r → value_of domains m text ≡ Ok values → ⊥
  not_both text r values h k = err_ok r values (sym h ∙ k)

  one_value : (text : List ℕ) (one other : List Assigned) → value_of domains m text ≡ Ok one → value_of domains m text ≡ Ok other → other ≡ one
  one_value text one other h k = ok_same (value_of domains m text) one other h k

  -- a buffer is as long as its valuation makes it
  long_as : (text : List ℕ) (values : List Assigned) (bytes : List ℕ) → value_of domains m text ≡ Ok values → ReadsAs domains m bytes values → length_of domains m values ≡ length bytes
  long_as text values bytes e r = long values (length bytes) r.path r.fields (orderly domains m text values e).ascending r.fits

  held_long : (text : List ℕ) (values : List Assigned) (bytes : List ℕ) → value_of domains m text ≡ Ok values → ReadsAs domains m bytes values → 16777215 < length_of domains m values → ⊥
  held_long text values bytes e r h = omega (arith, h, long_as text values bytes e r, r.fits.whole.partial.short)

  held_unfit : (text : List ℕ) (values : List Assigned) (bytes : List ℕ) (why : WriteFault) → value_of domains m text ≡ Ok values → ReadsAs domains m bytes values → IsUnfit domains m values why → ⊥
  held_unfit text values bytes why e r u = none values why u (r.path, r.fields, subst (λ n. Fits domains m values n r.path r.fields) (sym (long_as text values bytes e r)) r.fits)

  long_unfit : (values : List Assigned) (why : WriteFault) → 16777215 < length_of domains m values → IsUnfit domains m values why → ⊥
  long_unfit values why h u = omega (arith, h, u.walked.partial.short)

  pub one_code : (text : List ℕ) (a b : Code) → IsCoded text a → IsCoded text b → a ≡ b
  one_code text (Refused r) (Refused s) h k = ap Refused (err_same (value_of domains m text) r s h k)
  one_code text (Refused r) (Held bytes) h k = absurd (not_both text r k.1.0 h k.1.1)
  one_code text (Refused r) Long h k = absurd (not_both text r k.0 h k.1)
  one_code text (Refused r) (Unfits why) h k = absurd (not_both text r k.0 h k.1)
  one_code text (Held bytes) (Refused s) h k = absurd (not_both text s h.1.0 k h.1.1)
  one_code text (Held bytes) (Held others) h k =
      let same = one_value text h.1.0 k.1.0 h.1.1 k.1.1 in
      ap Held (buffer h.1.0 bytes others (orderly domains m text h.1.0 h.1.1).ascending h.0 k.0 h.1.2 (subst (ReadsAs domains m others) same k.1.2))
  one_code text (Held bytes) Long h k =
      let same = one_value text h.1.0 k.0 h.1.1 k.1 in
      absurd (held_long text h.1.0 bytes h.1.1 h.1.2 (subst (λ v. 16777215 < length_of domains m v) same k.2))
  one_code text (Held bytes) (Unfits why) h k =
      let same = one_value text h.1.0 k.0 h.1.1 k.1 in
      absurd (held_unfit text h.1.0 bytes why h.1.1 h.1.2 (subst (λ v. IsUnfit domains m v why) same k.2))
  one_code text Long (Refused s) h k = absurd (not_both text s h.0 k h.1)
  one_code text Long (Held bytes) h k =
      let same = one_value text k.1.0 h.0 k.1.1 h.1 in
      absurd (held_long text k.1.0 bytes k.1.1 k.1.2 (subst (λ v. 16777215 < length_of domains m v) same h.2))
  one_code text Long Long h k = refl
  one_code text Long (Unfits why) h k =
      let same = one_value text h.0 k.0 h.1 k.1 in
      absurd (long_unfit h.0 why h.2 (subst (λ v. IsUnfit domains m v why) same k.2))
  one_code text (Unfits why) (Refused s) h k = absurd (not_both text s h.0 k h.1)
  one_code text (Unfits why) (Held bytes) h k =
      let same = one_value text k.1.0 h.0 k.1.1 h.1 in
      absurd (held_unfit text k.1.0 bytes why k.1.1 k.1.2 (subst (λ v. IsUnfit domains m v why) same h.2))
  one_code text (Unfits why) Long h k =
      let same = one_value text k.0 h.0 k.1 h.1 in
      absurd (long_unfit k.0 why k.2 (subst (λ v. IsUnfit domains m v why) same h.2))
  one_code text (Unfits why) (Unfits other) h k =
      let same = one_value text h.0 k.0 h.1 k.1 in
      ap Unfits (refusal h.0 why other h.2 (subst (λ v. IsUnfit domains m v other) same k.2))

  pub one_answer : HasOneAnswer domains m
  one_answer text one other h k = same_from_code one other (one_code text (code one) (code other) (coded text one h) (coded text other k))
