-- Worked examples.
use Rattle.std.specs.Prelude.{⊤, ◌≡◌, ℕ, true, T, List, [], ◌∷◌, ◌++◌, Some, None, Result, Ok, Err, refl, codes}
use Rattle.std.specs.List.{repeat}
use Rattle.std.specs.Str.{is_utf8, chars}
use Rattle.std.specs.FinMap.{is_sorted, from_sorted, entries-from_sorted}
use lib.Utf8.{encode}
use Rattle.hex.specs.Hex.{decode_pairs, encode_with}
use Rattle.sha2.proofs.Facts256.{digest_of_abc_256}
use Rattle.hub_path.specs.Path.{Path, path_of, path_cmp, name_cmp}
use Rattle.hub_tree.specs.declared.contents.Contents.{Contents}
use Rattle.hub_tree.specs.declared.contents.Contents.TheVariants as contents
use Rattle.hub_tree.specs.declared.contents.Mark.TheVariants as mark
use Rattle.hub_state.specs.declared.fault.Fault.{Fault}
use Rattle.hub_state.specs.declared.fault.Fault.TheVariants.{BadHeader, BadLine, BadPath, BadHex, NoParent, Repeated, Truncated, UnknownBlob, WrongDigest}
use Rattle.hub_state.specs.declared.fault.StateFault.{StateFault}
use Rattle.hub_state.specs.declared.form.Section.TheVariants as section
use Rattle.hub_tree.specs.Tree.{Replica}
use Rattle.hub_state.specs.State.{State, Text, root_text, pair_of}
use Rattle.hub_state.specs.declared.form.Version.TheVariants.{One, Two}
use Rattle.hub_state.specs.Writing.{joined_lines, version_lines, contents_lines, blob_line, mark_lines, pair_lines, dir_line, file_line, state_header, end_line}
use Rattle.hub_state.specs.Reading.{Above, above_end}

-- What these examples compute.
computed : ⊤
unfolding is_utf8 chars encode decode_pairs encode_with
computed = tt

abbrev fault : ℕ → Fault → Result Above StateFault
fault n f = Err (record { line = n; fault = f })

-- The header, a replica, these lines, and `end`.
abbrev hub_with : List (List ℕ) → List ℕ
hub_with ls =
    joined_lines (codes "hubsync state 1" ∷ codes "replica /srv/hub" ∷ ls ++ codes "end" ∷ [])

a_text_without_end_is_truncated : above_end (joined_lines (codes "hubsync state 1" ∷ []))
    ≡ fault 1 Truncated
unfolding computed
a_text_without_end_is_truncated = refl

the_empty_text_is_truncated_at_line_1 : above_end [] ≡ fault 1 Truncated
the_empty_text_is_truncated_at_line_1 = refl

another_header_is_reported : above_end (joined_lines (codes "hubsync state 9" ∷ codes "end" ∷ []))
    ≡ fault 1 BadHeader
unfolding computed
another_header_is_reported = refl

truncation_is_reported_at_the_last_line_whatever_it_is : above_end
    (joined_lines (codes "hubsync state 9" ∷ [])) ≡ fault 1 Truncated
unfolding computed
truncation_is_reported_at_the_last_line_whatever_it_is = refl

a_missing_parent_is_reported : above_end (hub_with (codes "dir a/b" ∷ [])) ≡ fault 3 NoParent
unfolding computed
a_missing_parent_is_reported = refl

a_half_byte_is_reported : above_end (hub_with (codes "file 6 a" ∷ [])) ≡ fault 3 BadHex
unfolding computed
a_half_byte_is_reported = refl

a_path_twice_is_reported : above_end (hub_with (codes "dir a" ∷ codes "dir a" ∷ []))
    ≡ fault 4 Repeated
unfolding computed
a_path_twice_is_reported = refl

a_file_is_no_parent : above_end (hub_with (codes "file - a" ∷ codes "dir a/b" ∷ []))
    ≡ fault 4 NoParent
unfolding computed
a_file_is_no_parent = refl

a_file_without_a_field_for_the_path_is_reported : above_end (hub_with (codes "file 61" ∷ []))
    ≡ fault 3 BadLine
unfolding computed
a_file_without_a_field_for_the_path_is_reported = refl

a_file_with_an_empty_path_is_reported : above_end (hub_with (codes "file - " ∷ []))
    ≡ fault 3 BadPath
unfolding computed
a_file_with_an_empty_path_is_reported = refl

an_empty_field_is_no_bytes : above_end (hub_with (codes "file  a" ∷ [])) ≡ fault 3 BadHex
unfolding computed
an_empty_field_is_no_bytes = refl

bytes_that_are_no_text_are_reported : above_end (hub_with ((codes "dir " ++ 255 ∷ []) ∷ []))
    ≡ fault 3 BadLine
unfolding computed
bytes_that_are_no_text_are_reported = refl

an_entry_before_any_section_is_reported : above_end
    (joined_lines (codes "hubsync state 1" ∷ codes "dir a" ∷ codes "end" ∷ [])) ≡ fault 2 BadLine
unfolding computed
an_entry_before_any_section_is_reported = refl

a_replica_twice_is_reported : above_end (hub_with (codes "replica /srv/hub/" ∷ []))
    ≡ fault 3 Repeated
unfolding computed
a_replica_twice_is_reported = refl

an_archive_needs_its_other_root : above_end
    (hub_with (codes "archive /srv/hub" ∷ codes "dir a" ∷ [])) ≡ fault 4 BadLine
unfolding computed
an_archive_needs_its_other_root = refl

an_archive_of_one_root_is_reported : above_end
    (hub_with (codes "archive /srv/hub" ∷ codes "with /srv/hub" ∷ [])) ≡ fault 4 BadLine
unfolding computed
an_archive_of_one_root_is_reported = refl

a_pair_in_the_other_order_is_reported : above_end
    (hub_with (codes "archive /srv/hub" ∷ codes "with /srv/a" ∷ codes "archive /srv/a"
    ∷ codes "with /srv/hub" ∷ [])) ≡ fault 6 Repeated
unfolding computed
a_pair_in_the_other_order_is_reported = refl

a_short_digest_is_reported : above_end (hub_with
    (codes "archive /srv/hub" ∷ codes "with /srv/a" ∷ codes "file 61 a" ∷ [])) ≡ fault 5 BadHex
unfolding computed
a_short_digest_is_reported = refl

nothing_follows_end : above_end (hub_with (codes "end" ∷ [])) ≡ fault 4 BadLine
unfolding computed
nothing_follows_end = refl

-- The last `end` may lack its LF, and nothing else may.
abbrev cut_in_end : List ℕ
cut_in_end = joined_lines (codes "hubsync state 1" ∷ codes "replica /srv/hub" ∷ []) ++ codes "en"

a_text_cut_in_its_end_is_truncated : above_end cut_in_end ≡ fault 3 Truncated
unfolding computed
a_text_cut_in_its_end_is_truncated = refl

-- A small state text: what is above its end.
abbrev hub : List ℕ
hub = root_text (path_of (codes "srv/hub"))

a_small_text_is_read : above_end (hub_with (codes "dir a" ∷ codes "file 6162 a/b" ∷ []))
    ≡ Ok (record {
      blobs = None;
      replicas = (
        hub,
        (path_of (codes "a/b"), contents.File (codes "ab"))
            ∷ (path_of (codes "a"), contents.Directory) ∷ [],
      ) ∷ [];
      archives = [];
      section =
          section.Replica;
      entries = 2;
      ended = true;
    })
unfolding computed
a_small_text_is_read = refl

-- An empty file in one replica, and nothing in the other.
abbrev e_path : Path
e_path = path_of (codes "e")

abbrev s1 : List ℕ
s1 = root_text (path_of (codes "srv/s1"))

two_replicas_are_read : above_end (hub_with (codes "file - e" ∷ codes "replica /srv/s1" ∷ []))
    ≡ Ok (record {
      blobs = None;
      replicas =
          (s1, []) ∷ (hub, (e_path, contents.File []) ∷ []) ∷ [];
      archives = [];
      section =
          section.Replica;
      entries = 1;
      ended = true;
    })
unfolding computed
two_replicas_are_read = refl

-- A digest of 64 digits, in either case.
abbrev zeros : List ℕ
zeros = repeat 31 (codes "00")

a_digest_is_read : above_end (hub_with (codes "archive /srv/s1" ∷ codes "with /srv/hub"
    ∷ (codes "file " ++ zeros ++ codes "aB e") ∷ []))
    ≡ Ok (record {
      blobs = None;
      replicas = (hub, []) ∷ [];
      archives =
          (hub ∷ s1 ∷ [], (e_path, mark.File (repeat 31 (0 ∷ []) ++ 171 ∷ [])) ∷ []) ∷ [];
      section =
          section.Archive;
      entries = 1;
      ended = true;
    })
unfolding computed
a_digest_is_read = refl

-- A text of version 2, by its lines below the header.
abbrev two_with : List (List ℕ) → List ℕ
two_with ls = joined_lines (codes "hubsync state 2" ∷ ls ++ codes "end" ∷ [])

-- The SHA-256 of "abc" is an example of FIPS 180-4.
abbrev abc : List ℕ
abc = codes "ba7816bf8f01cfea414140de5dae2223b00361a396177a9cb410ff61f20015ad"

abbrev abc_digest : List ℕ
abc_digest =
    0xBA ∷ 0x78 ∷ 0x16 ∷ 0xBF ∷ 0x8F ∷ 0x01 ∷ 0xCF ∷ 0xEA ∷ 0x41 ∷ 0x41 ∷ 0x40 ∷ 0xDE ∷ 0x5D ∷ 0xAE
    ∷ 0x22 ∷ 0x23
    ∷ 0xB0 ∷ 0x03 ∷ 0x61 ∷ 0xA3 ∷ 0x96 ∷ 0x17 ∷ 0x7A ∷ 0x9C ∷ 0xB4 ∷ 0x10 ∷ 0xFF ∷ 0x61 ∷ 0xF2
    ∷ 0x00 ∷ 0x15 ∷ 0xAD ∷ []

abbrev abc_blob : List ℕ
abc_blob = codes "blob " ++ abc ++ codes " 616263"

version_1_has_no_blobs : above_end (joined_lines
    (codes "hubsync state 1" ∷ abc_blob ∷ codes "end" ∷ [])) ≡ fault 2 BadLine
unfolding computed
version_1_has_no_blobs = refl

no_blob_follows_a_section : above_end (two_with (codes "replica /srv/hub" ∷ abc_blob ∷ []))
    ≡ fault 3 BadLine
unfolding computed
no_blob_follows_a_section = refl

a_blob_needs_a_digest : above_end (two_with
    ((codes "blob " ++ repeat 31 (codes "00") ++ codes "0 -") ∷ [])) ≡ fault 2 BadHex
unfolding computed
a_blob_needs_a_digest = refl

a_file_of_version_2_has_no_bytes : above_end
    (two_with (codes "replica /srv/hub" ∷ codes "file - e" ∷ [])) ≡ fault 3 BadHex
unfolding computed
a_file_of_version_2_has_no_bytes = refl

a_file_needs_its_blob : above_end (two_with
    (codes "replica /srv/hub" ∷ (codes "file " ++ abc ++ codes " e") ∷ [])) ≡ fault 3 UnknownBlob
unfolding computed
a_file_needs_its_blob = refl

an_unknown_blob_is_reported_before_a_missing_parent : above_end
    (two_with (codes "replica /srv/hub" ∷ (codes "file " ++ abc ++ codes " a/b") ∷ []))
    ≡ fault 3 UnknownBlob
unfolding computed
an_unknown_blob_is_reported_before_a_missing_parent = refl

a_path_twice_is_reported_before_an_unknown_blob : above_end
    (two_with (codes "replica /srv/hub" ∷ codes "dir a" ∷ (codes "file " ++ abc ++ codes " a")
    ∷ [])) ≡ fault 4 Repeated
unfolding computed
a_path_twice_is_reported_before_an_unknown_blob = refl

bytes_need_their_digest : above_end (two_with ((codes "blob " ++ zeros ++ codes "00 616263") ∷ []))
    ≡ fault 2 WrongDigest
unfolding computed
bytes_need_their_digest = rw digest_of_abc_256 refl

a_file_has_the_bytes_of_its_blob : above_end
    (two_with (abc_blob ∷ codes "replica /srv/hub" ∷ (codes "file " ++ abc ++ codes " e") ∷ []))
    ≡ Ok (record {
      blobs = Some ((abc_digest, codes "abc") ∷ []);
      replicas =
          (hub, (e_path, contents.File (codes "abc")) ∷ []) ∷ [];
      archives = [];
      section =
          section.Replica;
      entries = 1;
      ended = true;
    })
unfolding computed
a_file_has_the_bytes_of_its_blob = rw digest_of_abc_256 refl

-- Roots are ordered by their texts, where `-` comes before `/`.
roots_go_by_text : pair_of (path_of (codes "a/b")) (path_of (codes "a-b"))
    ≡ codes "/a-b" ∷ codes "/a/b" ∷ []
unfolding computed
roots_go_by_text = refl

-- A small state, by its lines.
abbrev small_entries : List (Path × Contents)
small_entries =
    (path_of (codes "a"), contents.Directory) ∷ (path_of (codes "a/b"), contents.Directory)
    ∷ (path_of (codes "a-b"), contents.File []) ∷ []

abbrev small_replicas : List (Text × Replica)
small_replicas = (hub, from_sorted {R = path_cmp} small_entries) ∷ []

abbrev small : State
small =
    record {
      replicas = from_sorted {R = name_cmp} small_replicas;
      archives =
          from_sorted {R = path_cmp} [];
    }

a_state_is_written_in_the_order_of_its_paths : version_lines One small
    ≡ state_header One ∷ (codes "replica " ++ hub) ∷ dir_line (path_of (codes "a"))
    ∷ dir_line (path_of (codes "a/b")) ∷ file_line (codes "-") (path_of (codes "a-b")) ∷ end_line
    ∷ []
a_state_is_written_in_the_order_of_its_paths =
    let h : T (is_sorted path_cmp small_entries) = tt in
    let k : T (is_sorted name_cmp small_replicas) = tt in
    simp (entries-from_sorted)

-- Lines as they are written.
a_directory_is_written : contents_lines One (path_of (codes "a/b"), contents.Directory)
    ≡ codes "dir a/b" ∷ []
unfolding computed
a_directory_is_written = refl

a_file_is_written_in_lower_case : contents_lines One
    (path_of (codes "a"), contents.File (171 ∷ 205 ∷ [])) ≡ codes "file abcd a" ∷ []
unfolding computed
a_file_is_written_in_lower_case = refl

an_empty_file_is_written_as_a_dash : contents_lines One (path_of (codes "e"), contents.File [])
    ≡ codes "file - e" ∷ []
unfolding computed
an_empty_file_is_written_as_a_dash = refl

a_digest_is_written_in_lower_case : mark_lines
    (path_of (codes "e"), mark.File (repeat 31 (0 ∷ []) ++ 171 ∷ []))
    ≡ (codes "file " ++ zeros ++ codes "ab e") ∷ []
unfolding computed
a_digest_is_written_in_lower_case = refl

an_archive_begins_with_two_lines : pair_lines (codes "/a" ∷ codes "/b" ∷ [])
    ≡ codes "archive /a" ∷ codes "with /b" ∷ []
an_archive_begins_with_two_lines = refl

a_blob_is_written_in_lower_case : blob_line (abc_digest, codes "abc") ≡ abc_blob
unfolding computed
a_blob_is_written_in_lower_case = refl

a_file_of_version_2_names_its_blob : contents_lines Two (e_path, contents.File (codes "abc"))
    ≡ (codes "file " ++ abc ++ codes " e") ∷ []
unfolding computed
a_file_of_version_2_names_its_blob = rw digest_of_abc_256 refl
