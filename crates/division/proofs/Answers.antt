-- What canonical, cutting and joining answer of an accepted file by the output's size, and what they leave in the output. Assumes nothing.
use Prim.Native.Nat.{ℕ, suc, ◌+◌, ◌≤◌, ◌<◌}
use native.Mathlib.Omega.{arith}
use native.Mathlib.Nat.{le_refl}
use mathlib.Core.Path.{◌≡◌, refl, sym, ap, ◌∙◌, subst}
use mathlib.Core.Logic.{◌↔◌, inl, inr}
use mathlib.Core.Bool.{Bool, true, false, cond, false≢true}
use Rattle.std.specs.Prelude.{Option, Some, None}
use mathlib.Core.List.{List, ◌∷◌, ◌++◌, map}
use borrow.Author.Tests.{leb-true, leb-false}
use lib.Dec.{leb}
use lib.ListN.{length, take, drop, length-append}
use lib.Seq.{take_at}
use Rattle.lists.specs.Lists.{All, Res, ok, refused, map_res, and_then}
use Rattle.characters.specs.Rows.{flat}
use Rattle.notebook.specs.Notebook.{Notebook, read_file}
use Rattle.notebook.specs.Same.{arrange}
use Rattle.notebook.specs.Canonical.{write_file, canonical_bytes, canonical_file, canonical_result}
use Rattle.notebook.proofs.Accepted.{no_refusal}
use Rattle.notebook.proofs.Arranging.{arranged_carries, arranged_again, arrange_as_is}
use Rattle.ids.specs.Used.{unused}
use Rattle.division.specs.Marks.{valid_id}
use Rattle.division.proofs.Chunks.{chunk_bytes, chunks_once}
use Rattle.replies.specs.Replies.{Answer}
use Rattle.replies.specs.Replies.{Done, Refused}
use Rattle.division.specs.Cut.{cutting, listed, for_id, list_for, cut_list, writes_pieces, cut_result}
use Rattle.division.specs.Join.{join_file, join_result}
use Rattle.replies.specs.declared.reply.Reply.{Reply}
use Rattle.replies.specs.Replies.{refusal, result, reply_of}
use Rattle.replies.specs.Results.{Result, writes as writing, answer_of, fitting, answer_in, reply_to, output_of}
use Rattle.replies.proofs.Results.{gives_refusal, gives_20, gives_result}
use Rattle.division.specs.Orders.{Perm}
use Rattle.division.specs.Demand.{OnePiece, ListIn, Sound, Written, Delivers, CanonicalFile, JoinedFile, Valid, Found, OneOfThree}
use Rattle.division.proofs.Own.{sound, restores}
use Rattle.division.proofs.Fewest.{Chunks, chunked, Listed, least}

-- ---- a reply told apart: which answer it is

-- refusals have numbers from 1 on
abbrev Numbered : Answer → Type 0
Numbered (Done a b c) = Unit {0}
Numbered (Refused n line) = 1 ≤ n

pub refused_told : (n : ℕ) (x : Answer) → reply_of x ≡ refusal (suc n) 0 → x ≡ Refused (suc n) 0
refused_told n (Done a b c) e = absurd (omega (arith, ap (λ (r : Reply). r.refusal) e))
refused_told n (Refused m line) e =
    let a : m ≡ suc n = ap (λ (r : Reply). r.refusal) e in
    let l : line ≡ 0 = ap (λ (r : Reply). r.line) e in
    cc

pub done_told : (x : Answer) (a b c : ℕ) → Numbered x → reply_of x ≡ result a b c → x ≡ Done a b c
done_told (Done i j k) a b c h e =
    let p : i ≡ a = ap (λ (r : Reply). r.a) e in
    let q : j ≡ b = ap (λ (r : Reply). r.b) e in
    let s : k ≡ c = ap (λ (r : Reply). r.c) e in
    cc
done_told (Refused m line) a b c h e = absurd (omega (arith, h, ap (λ (r : Reply). r.refusal) e))

pub numbered : (f : List ℕ) (b : Notebook) (c : ℕ) (id used out : List ℕ) → read_file f ≡ ok b → Numbered (answer_in (cut_result f c id used) out)
unfolding answer_in cut_result cut_list
numbered f b c id used out e = rw e (valid (valid_id id) (unused id used))
  where
    written : (x : Bool) (r : Result) → Numbered (answer_of (cond x (ok r) (refused 20 0)))
    written true r = tt
    written false r = omega arith

    list : (m : Option (List (List ℕ))) → Numbered (answer_of (fitting (map_res writes_pieces (listed m)) out))
    list None = omega arith
    list (Some ps) = written (leb (length (flat ps)) (length out)) (writes_pieces ps)

    valid : (v p : Bool) → Numbered (answer_of (fitting (map_res writes_pieces (for_id v p (listed (cutting id c (arrange b))))) out))
    valid true true = list (cutting id c (arrange b))
    valid true false = omega arith
    valid false p = omega arith

-- ---- what a call has to write, by whether the output can hold it

pub deliver : {x : Res Result} {r : Result} → x ≡ ok r → Delivers x (result r.a r.b r.c) r.written
deliver {x} {r} e = record {
  withheld = λ out. (λ h. lacks out (leb (length r.written) (length out)) refl h, λ h. sym (ap reply_of (gives_20 out e h).answer));
  kept = λ out h. sym (gives_20 out e h).output;
  written = λ out h. (sym (ap reply_of (gives_result out e h).answer), sym (gives_result out e h).output);
}
  where
    lacks : (out : List ℕ) (b : Bool) → leb (length r.written) (length out) ≡ b → reply_to x out ≡ refusal 20 0 → length out < length r.written
    lacks out true p h = absurd (omega (arith, ap (λ (y : Reply). y.refusal) (ap reply_of (gives_result out e (leb-true _ _ p)).answer ∙ h)))
    lacks out false p h = leb-false _ _ p

-- a file is told by the call that writes it
pub delivered_once : {r : Res Result} {v w : List ℕ} → Delivers r (result (length v) 0 0) v → Delivers r (result (length w) 0 0) w → v ≡ w
delivered_once {r} {v} {w} x y =
    let out : List ℕ = v ++ w in
    let i = x.written out (omega (arith, length-append v w)) in
    let j = y.written out (omega (arith, length-append v w)) in
    let n : length v ≡ length w = ap (λ (r : Reply). r.a) (sym i.0 ∙ j.0) in
    sym (take_at v (drop (length v) out) (length v) refl)
    ∙ ap (take (length v)) (sym i.1 ∙ j.1)
    ∙ take_at w (drop (length w) out) (length v) (sym n)

-- whole pieces with equal bytes are equal
pub pieces_once : (ps qs : List (List ℕ)) → All OnePiece ps → All OnePiece qs → flat ps ≡ flat qs → ps ≡ qs
pieces_once ps qs a h q =
    let x : Chunks ps = chunked ps a in
    let y : Chunks qs = chunked qs h in
    let z : x.chunks ≡ y.chunks =
    chunks_once x.chunks y.chunks x.good y.good (sym (ap flat x.bytes) ∙ q ∙ ap flat y.bytes) in
    x.bytes ∙ ap (map chunk_bytes) z ∙ sym y.bytes

-- ---- cutting's answers

done_refused : {a b c m line : ℕ} → Refused m line ≡ Done a b c → ⊥
done_refused e = let z : ◌≡◌ {A = ℕ} 0 1 = cc in omega arith

-- a list was planned for a valid ID
pub record Planned (id used : List ℕ) (c : ℕ) (b : Notebook) (ps : List (List ℕ)) : Type 0 where
  pub valid : Valid id used
  pub is : cutting id c (arrange b) ≡ Some ps

module _ (f : List ℕ) (b : Notebook) (c : ℕ) (id used : List ℕ) (e : read_file f ≡ ok b) where
  pub own_sound : valid_id id ≡ true → (ps : List (List ℕ)) → cutting id c (arrange b) ≡ Some ps → Sound f c ps
  own_sound v =
      let r : read_file (write_file (arrange b)) ≡ ok (arrange b) = arranged_carries f b e in
      sound (write_file (arrange b)) id (arrange b) c r v f (record { one = arrange b; other = b; read_one = r; read_other = e; same = arranged_again b })

  -- the records of the joined file stand in the sequence of the canonical file
  joined_arranged : (qs : List (List ℕ)) (s : Sound f c qs) → s.same.one ≡ arrange b
  joined_arranged qs s = sym (arrange_as_is s.same.one) ∙ s.same.same ∙ ap arrange (once s.same.read_other e)
    where
      once : {r : Res Notebook} {x y : Notebook} → r ≡ ok x → r ≡ ok y → x ≡ y
      once p q = cc

  list_found : (ps : List (List ℕ)) → cut_list f c id used ≡ ok ps → Planned id used c b ps
  unfolding cut_list
  list_found ps l = go (valid_id id) refl (unused id used) refl (cutting id c (arrange b)) refl (sym (ap (λ (r : Res Notebook). and_then r (list_for id used c)) e) ∙ l)
    where
      go : (v : Bool) → valid_id id ≡ v → (x : Bool) → unused id used ≡ x → (m : Option (List (List ℕ))) → cutting id c (arrange b) ≡ m
          → for_id v x (listed m) ≡ ok ps → Planned id used c b ps
      go true p true u None q l = absurd (no_refusal l)
      go true p true u (Some xs) q l = let z : xs ≡ ps = cc in record { valid = record { digits = p; passes = u }; is = q ∙ ap Some z }
      go true p false u m q l = absurd (no_refusal l)
      go false p x u m q l = absurd (no_refusal l)

  list_of : Valid id used → cut_list f c id used ≡ listed (cutting id c (arrange b))
  unfolding cut_list
  list_of v = ap (λ (r : Res Notebook). and_then r (list_for id used c)) e ∙ go (valid_id id) v.digits (unused id used) v.passes
    where
      go : (x : Bool) → x ≡ true → (y : Bool) → y ≡ true → for_id x y (listed (cutting id c (arrange b))) ≡ listed (cutting id c (arrange b))
      go true p true q = refl
      go true p false q = absurd (false≢true q)
      go false p y q = absurd (false≢true p)

  -- ---- a list that was written

  pub record Wrote (out : List ℕ) (n t : ℕ) : Type 0 where
    pub list : List (List ℕ)
    pub found : Planned id used c b list
    pub count : length list ≡ n
    pub size : length (flat list) ≡ t
    pub inside : t ≤ length (output_of (cut_result f c id used) out)
    pub front : take t (output_of (cut_result f c id used) out) ≡ flat list

  pub wrote : (out : List ℕ) (n t : ℕ) → answer_in (cut_result f c id used) out ≡ Done n t 0 → Wrote out n t
  unfolding cut_result
  wrote out n t h = go (cut_list f c id used) refl
    where
      go : (r : Res (List (List ℕ))) → cut_list f c id used ≡ r → Wrote out n t
      go (refused m line) q = absurd (done_refused ((gives_refusal out (ap (map_res writes_pieces) q)).answer ∙ h))
      go (ok ps) q = by (leb (length (flat ps)) (length out)) refl
        where
          given : map_res writes_pieces (cut_list f c id used) ≡ ok (writes_pieces ps)
          given = ap (map_res writes_pieces) q

          by : (x : Bool) → leb (length (flat ps)) (length out) ≡ x → Wrote out n t
          by false p = absurd (done_refused ((gives_20 out given (leb-false _ _ p)).answer ∙ h))
          by true p =
              let d : Done (length ps) (length (flat ps)) 0 ≡ Done n t 0 = (gives_result out given (leb-true _ _ p)).answer ∙ h in
              let s : length (flat ps) ≡ t = cc in
              let w : output_of (map_res writes_pieces (cut_list f c id used)) out ≡ flat ps ++ drop (length (flat ps)) out = sym (gives_result out given (leb-true _ _ p)).output in
              record {
                list = ps;
                found = list_found ps q;
                count = (let z : length ps ≡ n = cc in z);
                size = s;
                inside = omega (arith, s, ap length w, length-append (flat ps) (drop (length (flat ps)) out));
                front = ap (take t) w ∙ take_at (flat ps) (drop (length (flat ps)) out) t s;
              }

  pub writes : (out : List ℕ) (n t : ℕ) → answer_in (cut_result f c id used) out ≡ Done n t 0 → Written f c (output_of (cut_result f c id used) out) n t
  writes out n t h =
      let w : Wrote out n t = wrote out n t h in
      let s : Sound f c w.list = own_sound w.found.valid.digits w.list w.found.is in
      record {
        list = w.list;
        is = record { bytes = w.front; whole = s.pieces; count = w.count };
        inside = w.inside;
        sound = s;
        fewest = λ qs u. omega (arith, few w (least id (arrange b) c f qs u (joined_arranged qs u)));
        only = λ qs i. pieces_once qs w.list i.whole s.pieces (sym i.bytes ∙ w.front);
      }
    where
      few : {k : ℕ} (w : Wrote out n t) → Listed id (arrange b) c k → n ≤ k
      few w l =
          let q : Some l.list ≡ Some w.list = sym l.is ∙ w.found.is in
          let z : l.list ≡ w.list = cc in
          omega (arith, ap length z, l.few, w.count)

  -- ---- no list

  no_list_18 : Valid id used → (out : List ℕ) → cutting id c (arrange b) ≡ None → answer_in (cut_result f c id used) out ≡ Refused 18 0
  unfolding cut_result
  no_list_18 v out q = sym (gives_refusal out (ap (map_res writes_pieces) (list_of v ∙ ap listed q))).answer

  list_no_18 : Valid id used → (out : List ℕ) (ps : List (List ℕ)) → cutting id c (arrange b) ≡ Some ps → answer_in (cut_result f c id used) out ≡ Refused 18 0 → ⊥
  unfolding cut_result
  list_no_18 v out ps q h = go (leb (length (flat ps)) (length out)) refl
    where
      given : map_res writes_pieces (cut_list f c id used) ≡ ok (writes_pieces ps)
      given = ap (map_res writes_pieces) (list_of v ∙ ap listed q)

      go : (x : Bool) → leb (length (flat ps)) (length out) ≡ x → ⊥
      go true p = done_refused (sym ((gives_result out given (leb-true _ _ p)).answer ∙ h))
      go false p =
          let e : Refused 20 0 ≡ Refused 18 0 = (gives_20 out given (leb-false _ _ p)).answer ∙ h in
          let z : ◌≡◌ {A = ℕ} 20 18 = cc in
          omega arith

  pub finds : Valid id used → (out : List ℕ) → (answer_in (cut_result f c id used) out ≡ Refused 18 0) ↔ ((qs : List (List ℕ)) → Sound f c qs → ⊥)
  finds v out = (
    λ h qs s. let l : Listed id (arrange b) c (length qs) = least id (arrange b) c f qs s (joined_arranged qs s) in list_no_18 v out l.list l.is h,
    λ h. go h (cutting id c (arrange b)) refl,
  )
    where
      go : ((qs : List (List ℕ)) → Sound f c qs → ⊥) → (m : Option (List (List ℕ))) → cutting id c (arrange b) ≡ m → answer_in (cut_result f c id used) out ≡ Refused 18 0
      go h None q = no_list_18 v out q
      go h (Some ps) q = absurd (h ps (own_sound v.digits ps q))

  -- ---- a list that is found

  delivers : (ps : List (List ℕ)) → cut_list f c id used ≡ ok ps → Delivers (cut_result f c id used) (result (length ps) (length (flat ps)) 0) (flat ps)
  unfolding cut_result
  delivers ps q = deliver (ap (map_res writes_pieces) q)

  pub withholds : Valid id used → (out : List ℕ) → (reply_to (cut_result f c id used) out ≡ refusal 18 0 → ⊥) → Found f c id used
  withholds v out h = go (cutting id c (arrange b)) refl
    where
      go : (m : Option (List (List ℕ))) → cutting id c (arrange b) ≡ m → Found f c id used
      go None q = absurd (h (ap reply_of (no_list_18 v out q)))
      go (Some ps) q = record { list = ps; sound = own_sound v.digits ps q; delivered = delivers ps (list_of v ∙ ap listed q) }

  pub says : Valid id used → (out : List ℕ) → OneOfThree (reply_to (cut_result f c id used) out)
  unfolding answer_in cut_result
  says v out = rw (list_of v) (list (cutting id c (arrange b)))
    where
      room : (ps : List (List ℕ)) (x : Bool) → OneOfThree (reply_of (answer_of (cond x (ok (writes_pieces ps)) (refused 20 0))))
      room ps true = inl (record { count = length ps; size = length (flat ps); is = refl })
      room ps false = inr (inr refl)

      list : (m : Option (List (List ℕ))) → OneOfThree (reply_of (answer_of (fitting (map_res writes_pieces (listed m)) out)))
      list None = inr (inl refl)
      list (Some ps) = room ps (leb (length (flat ps)) (length out))

-- another refusal is none of the three
pub none_of_three : (n : ℕ) → (n ≡ 0 → ⊥) → (n ≡ 18 → ⊥) → (n ≡ 20 → ⊥) → OneOfThree (refusal n 0) → ⊥
none_of_three n a b c (inl w) = a (ap (λ (r : Reply). r.refusal) w.is)
none_of_three n a b c (inr (inl w)) = b (ap (λ (r : Reply). r.refusal) w)
none_of_three n a b c (inr (inr w)) = c (ap (λ (r : Reply). r.refusal) w)

pub says_valid : (f : List ℕ) (b : Notebook) (c : ℕ) (id used : List ℕ) → read_file f ≡ ok b → (out : List ℕ)
    → OneOfThree (reply_to (cut_result f c id used) out) → Valid id used
unfolding answer_in cut_result cut_list
says_valid f b c id used e out h =
    go (valid_id id) refl (unused id used) refl (subst (λ (r : Res Notebook). OneOfThree (reply_to (map_res writes_pieces (and_then r (list_for id used c))) out)) e h)
  where
    go : (v : Bool) → valid_id id ≡ v → (x : Bool) → unused id used ≡ x
        → OneOfThree (reply_to (map_res writes_pieces (for_id v x (listed (cutting id c (arrange b))))) out) → Valid id used
    go true p true q h = record { digits = p; passes = q }
    go true p false q h = absurd (none_of_three 24 (λ z. omega (arith, z)) (λ z. omega (arith, z)) (λ z. omega (arith, z)) h)
    go false p x q h = absurd (none_of_three 17 (λ z. omega (arith, z)) (λ z. omega (arith, z)) (λ z. omega (arith, z)) h)

-- ---- canonical's answers

pub canonical_file_lem : (f : List ℕ) (b : Notebook) → read_file f ≡ ok b → CanonicalFile f (canonical_bytes b)
unfolding canonical_result canonical_file
canonical_file_lem f b e = deliver (ap (λ (x : Res Notebook). map_res writing (map_res canonical_bytes x)) e)

-- any file that canonical writes is the notebook's
pub canonical_is : (f : List ℕ) (b : Notebook) (w : List ℕ) → read_file f ≡ ok b → CanonicalFile f w → w ≡ canonical_bytes b
canonical_is f b w e x = delivered_once x (canonical_file_lem f b e)

-- ---- joining's answers

joined_file_lem : (s w : List ℕ) → join_file s ≡ ok w → JoinedFile s w
unfolding join_result
joined_file_lem s w e = deliver (ap (map_res writing) e)

-- a refusal holds no bytes
pub accepts : (s : List ℕ) (x : ℕ) (w : List ℕ) → (join_file s ≡ ok (x ∷ w)) ↔ JoinedFile s (x ∷ w)
unfolding join_result
accepts s x w = (joined_file_lem s (x ∷ w), λ d. go (join_file s) refl d)
  where
    go : (r : Res (List ℕ)) → join_file s ≡ r → JoinedFile s (x ∷ w) → join_file s ≡ ok (x ∷ w)
    go (ok v) q d = q ∙ ap ok (delivered_once (joined_file_lem s v q) d)
    go (refused n line) q d =
        let a : refusal n line ≡ result (length (x ∷ w)) 0 0 =
        ap reply_of (gives_refusal (x ∷ w) (ap (map_res writing) q)).answer ∙ (d.written (x ∷ w) (le_refl _)).0 in
        let z : 0 ≡ length (x ∷ w) = ap (λ (r : Reply). r.a) a in
        absurd (omega (arith, z))

pub joins_back : (f : List ℕ) (b : Notebook) (c : ℕ) (id used out : List ℕ) → read_file f ≡ ok b → (n t : ℕ) → answer_in (cut_result f c id used) out ≡ Done n t 0
    → (ps qs : List (List ℕ)) → ListIn (output_of (cut_result f c id used) out) n t ps → Perm ps qs → (w : List ℕ) → CanonicalFile f w → JoinedFile (flat qs) w
unfolding canonical_bytes
joins_back f b c id used out e n t h ps qs i m w x =
    let o : Wrote f b c id used e out n t = wrote f b c id used e out n t h in
    let s : Sound f c o.list = own_sound f b c id used e o.found.valid.digits o.list o.found.is in
    let q : ps ≡ o.list = pieces_once ps o.list i.whole s.pieces (sym i.bytes ∙ o.front) in
    joined_file_lem (flat qs) w
    (restores (write_file (arrange b)) id (arrange b) c (arranged_carries f b e) o.found.valid.digits o.list qs o.found.is (subst (λ (z : List (List ℕ)). Perm z qs) q m) ∙ ap ok (sym (canonical_is f b w e x)))
