-- NearLaws, OnSideLaws: a place near a corner of a triangle, and one on the line of a side. ClearLaws: no station lies in a triangle but
-- at a corner. WovenLaws: what is asked makes a mesh. FaultlessLaws: what the tests of one triangle and of one station say. AcceptedLaws:
-- exactly the meshes are accepted, and which tests never decide. KnownChecks: small lists of triangles, checked by computation.
pub mod NearLaws
pub mod OnSideLaws
pub mod ClearLaws
pub mod WovenLaws
pub mod FaultlessLaws
pub mod AcceptedLaws
pub mod KnownChecks
